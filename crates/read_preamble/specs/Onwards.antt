-- What a turn of a search says, and what a loop over such turns makes of "where the whole search ends is where it ends from here".
use Rattle.std.specs.Prelude.{ℕ, ◌-◌, ◌≤◌, ◌<◌, ◌≡◌, List, length, drop}
use Rattle.std.proofs.Common.{arith, sym, subst, ◌∙◌}
use Rattle.spec_format.specs.Readers.{Ans, Turn}
use Rattle.spec_lines.specs.Troubles.{stopped}
use Rattle.spec_lines.specs.Stands.{Stands}
use Rattle.read_preamble.specs.declared.Onward.{Onward}
use Rattle.read_preamble.specs.declared.Onward.TheVariants as onward

module _ {A : Type 0} (turn : List ℕ → Ans (Turn A)) where
  abbrev pub OnwardAs : List ℕ → ℕ → Onward → Type 0
  OnwardAs s at (onward.To n) = (stopped turn (drop at s) ≡ stopped turn (drop n s)) × (at < n) × (n ≤ length s)
  OnwardAs s at onward.Stop = stopped turn (drop at s) ≡ drop at s

  pub record Onwards (s : List ℕ) (at : ℕ) (r : Onward) : Type 0 where
    pub is : OnwardAs s at r

module _ {A : Type 0} (turn : List ℕ → Ans (Turn A)) (s : List ℕ) (at i : ℕ) (r : Onward) (h : Onwards turn s i r) where
  told : (n : ℕ) → r ≡ onward.To n → (stopped turn (drop i s) ≡ stopped turn (drop n s)) × (i < n) × (n ≤ length s)
  told n e = subst (λ (x : Onward). OnwardAs turn s i x) e h.is

  pub onward_same : (n : ℕ) → stopped turn (drop at s) ≡ stopped turn (drop i s) → r ≡ onward.To n → stopped turn (drop at s) ≡ stopped turn (drop n s)
  onward_same n k e = k ∙ (told n e).0

  pub onward_less : (n : ℕ) → r ≡ onward.To n → length s - n < length s - i
  onward_less n e = let p : (stopped turn (drop i s) ≡ stopped turn (drop n s)) × (i < n) × (n ≤ length s) = told n e in omega (arith, p.1, p.2)

  pub onward_from : (n : ℕ) → at ≤ i → r ≡ onward.To n → at ≤ n
  onward_from n f e = let p : (stopped turn (drop i s) ≡ stopped turn (drop n s)) × (i < n) × (n ≤ length s) = told n e in omega (arith, p.1, p.2)

  pub onward_within : (n : ℕ) → r ≡ onward.To n → n ≤ length s
  onward_within n e = (told n e).2

  pub onward_stop : stopped turn (drop at s) ≡ stopped turn (drop i s) → at ≤ i → i ≤ length s → r ≡ onward.Stop → Stands s at (stopped turn (drop at s)) i
  onward_stop k f w e = record { is = sym (k ∙ subst (λ (x : Onward). OnwardAs turn s i x) e h.is); from = f; within = w }

pub ruleset searching = (onward_same, onward_less, onward_from, onward_within, onward_stop)
