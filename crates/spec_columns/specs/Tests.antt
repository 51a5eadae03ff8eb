-- Tests that hold together, and texts that are the same.
use Rattle.std.specs.Prelude.{ℕ, Bool, true, false, ◌&&◌, ◌≡◌, refl, List, [], ◌∷◌}
use Rattle.std.proofs.Common.{arith, eq-eqb}
use Rattle.spec_format.specs.Bytes.{same}

pub both : (a b : Bool) → a ≡ true → b ≡ true → (a && b) ≡ true
both a b p q = cc

pub and_left : (a b : Bool) → (a && b) ≡ true → a ≡ true
and_left true b p = refl
and_left false b p = p

pub and_right : (a b : Bool) → (a && b) ≡ true → b ≡ true
and_right true b p = p
and_right false b p = let z : ◌≡◌ {A = ℕ} 0 1 = cc in absurd (omega arith)

same_refl : (l : List ℕ) → same l l ≡ true
same_refl [] = refl
same_refl (b ∷ l) = cc (eq-eqb b b refl, same_refl l)

pub same_as : (a b : List ℕ) → a ≡ b → same a b ≡ true
same_as a b e = rw e (same_refl b)
