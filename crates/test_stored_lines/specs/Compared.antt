-- What a comparison of two lists tells: it is true only of equal ones, so a difference cannot pass.
use Rattle.std.specs.Prelude.{ℕ, ◌+◌, ◌≤◌, ◌<◌, Bool, true, false, List, ◌≡◌, length, take, get_or}
use Rattle.std.proofs.Common.{sym, ◌∙◌, take-suc, take_all, add-one}
use Rattle.std.proofs.Math.ListN.{get_or-eq_default}
use Rattle.spec_format.specs.Impossible.{impossible}

pub record Same (a b : List ℕ) (r : Bool) : Type 0 where
  pub equal : r ≡ true → a ≡ b

pub no : (a b : List ℕ) → Same a b false
no a b = record { equal = λ e. impossible cc }

pub one_more : (a b : List ℕ) (i : ℕ) → take i a ≡ take i b → i < length a → i < length b → get_or a i 0 ≡ get_or b i 0 → take (i + 1) a ≡ take (i + 1) b
one_more a b i e l m x = rw (add-one, take-suc a i 0 l, take-suc b i 0 m, e, x)

pub all_of_them : (a b : List ℕ) (i : ℕ) → take i a ≡ take i b → length a ≤ i → length b ≤ i → Same a b true
all_of_them a b i e l m = record { equal = λ t. sym (take_all i a l) ∙ e ∙ take_all i b m }

-- what is told of a place past the end
pub past_end : (l : List ℕ) (i : ℕ) → length l ≤ i → 0 ≡ get_or l i 0
past_end l i h = sym (get_or-eq_default l 0 h)
