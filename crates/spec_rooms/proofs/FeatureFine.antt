-- A feature that was laid out in rooms can be written from them.
use Rattle.std.specs.Prelude.{ℕ, suc, ◌+◌, ◌*◌, ◌/◌, ◌≤◌, Bool, true, false, ◌&&◌, ◌||◌, ◌≡◌, refl, List, length, eqb}
use Rattle.std.proofs.Common.{arith}
use Rattle.spec_format.specs.Location.{reading}
use Rattle.spec_format.specs.Table.{LocationRow, Feature}
use Rattle.spec_format.specs.Rooms.{Rooms}
use Rattle.spec_format.specs.Rooms.{read_as, feature_read, location_fine}
use Rattle.spec_format.specs.Rooms.{feature_row_fine, features_fine}
use Rattle.spec_rooms.specs.LayoutBack.{LocationsGood, FeatureGood}
use Rattle.spec_rooms.specs.LayoutFine.{qualifiers_fine_lem}

or_true : (b : Bool) → ((b || true) && true) ≡ true
or_true true = refl
or_true false = refl

-- rows that were laid out, and are those of their text
pub location_fine_lem :
    (gaps : Bool) (r : Rooms) (text : List ℕ) (row : ℕ) (ls : List LocationRow) → LocationsGood r row ls → read_as (reading gaps text) ls ≡ true →
    location_fine gaps r text row (length ls) ≡ true
unfolding location_fine
location_fine_lem gaps r text row ls g h = rw (g.reads, h, g.inside) (or_true (eqb (length ls) 0))

feature_row_fine_lem : (r : Rooms) (at q l : ℕ) (f : Feature) → FeatureGood r at q l f → feature_read f ≡ true → feature_row_fine r at ≡ true
unfolding feature_row_fine
feature_row_fine_lem r at q l f g h =
    rw (g.texts.0.inside, g.texts.1.0.inside, g.texts.1.0.reads, g.row, g.rows) (location_fine_lem false r f.location l f.rows g.locations h)

pub feature_fine_lem :
    (r : Rooms) (i from q l n : ℕ) (f : Feature) → FeatureGood r (8 * i) q l f → feature_read f ≡ true → from ≤ q →
    q + length f.qualifiers ≤ length r.qualifiers / 4 →
    ((from' : ℕ) → from' ≤ q + length f.qualifiers → features_fine r (i + 1) from' n ≡ true) → features_fine r i from (suc n) ≡ true
unfolding features_fine
feature_fine_lem r i from q l n f g c h k next = go (eqb (length f.qualifiers) 0) refl
  where
    go : (b : Bool) → eqb (length f.qualifiers) 0 ≡ b → features_fine r i from (suc n) ≡ true
    go true e = rw (features_fine, feature_row_fine_lem r (8 * i) q l f g c, g.count, e) (next from (omega arith))
    go false e =
        rw (
          features_fine,
          feature_row_fine_lem r (8 * i) q l f g c,
          g.count,
          e,
          g.first,
          g.count,
          qualifiers_fine_lem r (8 * i) from q l f g h k,
          g.first,
          g.count,
        )
        (next (q + length f.qualifiers) (omega arith))
