-- Steps of the tests of features, one after the other.
use Prim.Native.Nat.{ℕ, suc, ◌+◌, ◌-◌, ◌*◌, ◌<◌}
use Rattle.std.specs.Prelude.{◌≡◌, Bool, Option, Some, None}
use Rattle.std.proofs.Math.Path.{sym}
use Rattle.std.proofs.Common.{◌∙◌}
use Rattle.std.proofs.Math.Bool.{true, false}
use native.Mathlib.Omega.{arith}
use Rattle.spec_format.specs.Rooms.{Rooms, features_fine}
use Rattle.judge_rooms.specs.Parts.{feature_next}
use Rattle.judge_rooms.specs.Steps.{feature_located, after_next, features_step}

-- ---- features

module _ (r : Rooms) (i n from : ℕ) (whole : Bool) (o : Option ℕ) (g : whole ≡ features_fine r i from (n - i)) (l : i < n) (h : o ≡ feature_next r (8 * i) from) where
  by_next : whole ≡ after_next r i (n - (i + 1)) o
  by_next = let e : n - i ≡ suc (n - (i + 1)) = omega arith in g ∙ rw (e, features_step, ← h)

  pub features_go : (f : ℕ) → o ≡ Some f → feature_located r (8 * i) ≡ true → whole ≡ features_fine r (i + 1) f (n - (i + 1))
  features_go f p t = by_next ∙ rw (p, t)

  pub features_no : o ≡ None → false ≡ whole
  features_no p = sym (by_next ∙ rw p)

  pub features_unlocated : (f : ℕ) → o ≡ Some f → feature_located r (8 * i) ≡ false → false ≡ whole
  features_unlocated f p t = sym (by_next ∙ rw (p, t))
