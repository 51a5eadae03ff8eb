-- Qualifiers that were laid out in rooms can be written from them: number 10 is not due for theirs. The whole table is in proofs/LayoutFine.antt.
use Rattle.std.specs.Prelude.{ℕ, ◌+◌, ◌-◌, ◌/◌, ◌≤◌, true, ◌≡◌, length}
use Rattle.std.proofs.Common.{arith, le-leb}
use Rattle.spec_format.specs.Table.{Qualifier, Feature}
use Rattle.spec_format.specs.Rooms.{Rooms, qualifier_pieces}
use Rattle.spec_format.specs.Rooms.{qualifier_row_fine}
use Rattle.spec_format.specs.Rooms.{qualifiers_fine}
use Rattle.spec_rooms.specs.Rows.{AllGood, rows_fine_lem}
use Rattle.spec_rooms.specs.LayoutBack.{FeatureGood}

qualifier_fine_lem : (r : Rooms) (at : ℕ) (x : Qualifier) → AllGood r.texts r.qualifiers at 0 (qualifier_pieces x) → qualifier_row_fine r at ≡ true
unfolding qualifier_row_fine
qualifier_fine_lem r at x g = rw (g.0.inside, g.1.0.inside)

pub qualifiers_fine_lem :
    (r : Rooms) (at from q l : ℕ) (f : Feature) → FeatureGood r at q l f → from ≤ q → q + length f.qualifiers ≤ length r.qualifiers / 4 →
    qualifiers_fine r from q (length f.qualifiers) ≡ true
unfolding qualifiers_fine
qualifiers_fine_lem r at from q l f g h k =
    let n : ℕ = length f.qualifiers in
    let m : ℕ = length r.qualifiers / 4 in
    rw (
      le-leb from q (omega (arith, h)),
      le-leb q m (omega arith),
      le-leb n (m - q) (omega arith),
      rows_fine_lem (λ at x. AllGood r.texts r.qualifiers at 0 (qualifier_pieces x)) 4 (qualifier_row_fine r) (qualifier_fine_lem r) q f.qualifiers
          g.qualifiers,
    )
