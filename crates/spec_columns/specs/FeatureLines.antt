-- The FEATURES line, and what stands before a feature's location: its key from column 6. The location is in proofs/FeatureLines.antt, and CONTIG too.
use Rattle.std.specs.Prelude.{ℕ, ◌≤◌, true, ◌≡◌, refl, List, ◌∷◌, ◌++◌, length}
use Rattle.std.proofs.Common.{arith, append_assoc}
use Rattle.spec_format.specs.Bytes.{bytes, spaces, each}
use Rattle.spec_format.specs.Table.{Feature}
use Rattle.spec_format.specs.Write.{padded, feature_lines, features_lines}
use Rattle.spec_public.specs.Public.{features_columns, feature_columns}
use Rattle.spec_columns.specs.Tests.{both, same_as}
use Rattle.spec_columns.specs.Parts.{part, padded_length}
use Rattle.spec_columns.specs.Lines.{ended}

-- where there are features, a line with the two words at columns 1 and 22 stands before them
pub features_columns_lem :
    (W : ℕ) (f : Feature) (fs : List Feature) →
    (line : List ℕ) × (features_lines W (f ∷ fs) ≡ ended line ++ each (feature_lines W) (f ∷ fs)) × (features_columns line ≡ true)
unfolding features_lines
features_columns_lem W f fs = (bytes "FEATURES             Location/Qualifiers", refl, refl)

-- ---- a feature

-- what stands before a location
abbrev pub kind_start : List ℕ → List ℕ
kind_start k = spaces 5 ++ padded 15 k ++ bytes " "

-- key and location in their columns
pub kind_columns : (k l : List ℕ) → length k ≤ 15 → feature_columns k l (kind_start k ++ l) ≡ true
kind_columns k l h =
    let line : List ℕ = kind_start k ++ l in
    let e : line ≡ spaces 5 ++ (padded 15 k ++ (bytes " " ++ l)) = simp append_assoc in
    let p₁ = part line 0 5 (spaces 5) (padded 15 k ++ (bytes " " ++ l)) e refl in
    let p₂ = part line 5 15 (padded 15 k) (bytes " " ++ l) p₁.next (padded_length 15 k (omega arith)) in
    let p₃ = part line 20 1 (bytes " ") l p₂.next refl in
    both _ _ (same_as _ _ p₁.here) (both _ _ (same_as _ _ p₂.here) (both _ _ (same_as _ _ p₃.here) (both _ _ (same_as _ _ p₃.next) refl)))
