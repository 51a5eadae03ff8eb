-- Facts out of tests that passed: conjunctions, and tests of each byte.
use Rattle.std.specs.Prelude.{ℕ, ◌<◌, Bool, true, ◌&&◌, ◌≡◌, refl, List, [], ◌∷◌, ◌++◌, length}
use Rattle.std.proofs.Common.{arith}
use Rattle.spec_format.specs.Bytes.{some, starts, all}
use Rattle.spec_format.specs.Impossible.{impossible}
pub use Rattle.spec_location.specs.Tests.{and_left, and_right, all_head, all_tail, all_append, all_imp}

pub and_both : (x y : Bool) → x ≡ true → y ≡ true → (x && y) ≡ true
and_both x y e f = cc

pub all_left : (p : ℕ → Bool) (s t : List ℕ) → all p (s ++ t) ≡ true → all p s ≡ true
all_left p [] t h = refl
all_left p (b ∷ s) t h = cc (all_head p b (s ++ t) h, all_left p s t (all_tail p b (s ++ t) h))

pub all_right : (p : ℕ → Bool) (s t : List ℕ) → all p (s ++ t) ≡ true → all p t ≡ true
all_right p [] t h = h
all_right p (b ∷ s) t h = all_right p s t (all_tail p b (s ++ t) h)

pub all_and : (p q r : ℕ → Bool) → ((b : ℕ) → p b ≡ true → q b ≡ true → r b ≡ true) → (t : List ℕ) → all p t ≡ true → all q t ≡ true → all r t ≡ true
all_and p q r f [] h k = refl
all_and p q r f (b ∷ t) h k = cc (f b (all_head p b t h) (all_head q b t k), all_and p q r f t (all_tail p b t h) (all_tail q b t k))

pub all_first : (p : ℕ → Bool) (t : List ℕ) → some t ≡ true → all p t ≡ true → starts p t ≡ true
all_first p [] s h = s
all_first p (b ∷ t) s h = all_head p b t h

pub starts_more : (p : ℕ → Bool) (x y : List ℕ) → starts p x ≡ true → starts p (x ++ y) ≡ true
starts_more p [] y h = impossible cc
starts_more p (b ∷ x) y h = h

pub some_pos : (t : List ℕ) → 0 < length t → some t ≡ true
some_pos [] h = absurd (omega arith)
some_pos (b ∷ t) h = refl
