-- A feature: the steps in which it is read. That it is read as it was written: proofs/FeatureBack.antt.
use Prim.Native.Nat.{ℕ, zero, suc, ◌+◌}
use Rattle.std.proofs.Common.{ap}
use Rattle.std.specs.Prelude.{◌≡◌, refl}
use Rattle.std.proofs.Math.Bool.{true}
use mathlib.Core.List.{List, [], ◌∷◌, ◌++◌}
use Rattle.std.proofs.Math.ListN.{length}
use Rattle.spec_format.specs.Bytes.{spaces, starts, but}
use Rattle.spec_format.specs.Readers.{got, no, until, spaces1}
use Rattle.spec_format.specs.Features.{feature_kind, feature_from, feature}
use Rattle.spec_format.specs.Table.{Feature}

-- ---- a feature

pub feature_steps :
    (s x₁ x₂ x₃ a k c : List ℕ) (f : Feature) (r : List ℕ) → spaces1 s ≡ got a x₁ → feature_kind x₁ ≡ got k x₂ →
    spaces1 x₂ ≡ got c x₃ → length a + length k + length c ≡ 21 → feature_from 21 k x₃ ≡ got f r → feature s ≡ got f r
unfolding feature
feature_steps s x₁ x₂ x₃ a k c f r e₁ e₂ e₃ e₄ e₅ = rw (e₁, e₂, e₃, e₄, e₅)

pub spaces_last : (n : ℕ) (x : List ℕ) → spaces n ++ 32 ∷ x ≡ spaces (suc n) ++ x
spaces_last zero x = refl
spaces_last (suc n) x = ap (λ (y : List ℕ). 32 ∷ y) (spaces_last n x)

-- ---- the feature table

pub no_feature : (s : List ℕ) → starts (but 32) s ≡ true → feature s ≡ no
unfolding feature until
no_feature [] h = cc
no_feature (b ∷ s) h = rw (h, until)
