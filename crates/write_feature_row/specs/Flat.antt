-- A row that is a struct, and the same row among the flat numbers: they are the same feature, tested and written alike.
use Rattle.std.specs.Prelude.{Option, Some, None, slice_get, ℕ, ◌+◌, ◌*◌, ◌/◌, ◌≤◌, ◌≡◌, List, length, get_or}
use Rattle.std.proofs.Common.{arith}
use Rattle.judge_feature.specs.Rules.{FeatureKnown}
use Rattle.spec_format.specs.Rooms.{feature_in, qualifier_in, location_row_in, qualifiers_fine, qualifier_row_fine}
use Rattle.base_rows.specs.Flat.{flat_length, fetched_stands}
use Rattle.base_rows.specs.Rows.{numbers, flat}
use Rattle.base_rows.specs.declared.Feature.{Feature}
use Rattle.judge_rooms.specs.Facts.{FeatureIn}
use Rattle.judge_rooms.specs.Parts.{feature_rooms, feature_next}
use Rattle.spec_format.specs.Record.{most}

pub rows_in : (rows : List Feature) → length (flat rows) / 8 ≡ length rows
rows_in rows = omega (arith, flat_length rows)

module _ (t q : List ℕ) (rows : List Feature) (i : ℕ) (f : Feature) (e : slice_get rows i ≡ Some f) where
  -- as the definitions ask for it
  location_length : get_or (flat rows) (8 * i + 2 + 1) 0 ≡ f.location.length
  location_length = let y : 8 * i + 3 ≡ 8 * i + 2 + 1 = omega arith in rw y at (fetched_stands rows i f e).location_length

  pub next_of_row : (from : ℕ) → feature_next (feature_rooms t (numbers f) q) 0 from ≡ feature_next (feature_rooms t (flat rows) q) (8 * i) from
  unfolding feature_next qualifiers_fine qualifier_row_fine
  next_of_row from =
      let s = fetched_stands rows i f e in
      rw (s.kind, s.kind_length, s.location, location_length, s.first, s.count)

  pub feature_of_row : feature_in (feature_rooms t (numbers f) q) 0 ≡ feature_in (feature_rooms t (flat rows) q) (8 * i)
  unfolding feature_in qualifier_in location_row_in
  feature_of_row =
      let s = fetched_stands rows i f e in
      rw (s.kind, s.kind_length, s.location, location_length, s.first, s.count, s.row, s.rows)

  -- what is known of a row among the numbers is known of the struct
  pub row_known : length t ≤ most → FeatureIn (feature_rooms t (flat rows) q) (8 * i) → FeatureKnown t (numbers f) q 0
  row_known small k =
      let s = fetched_stands rows i f e in
      record {
        small = small;
        row = omega arith;
        inside =
            record {
              kind = rw (s.kind, s.kind_length) at k.kind;
              location = rw (s.location, location_length) at k.location;
              qualifiers = rw (s.first, s.count) at k.qualifiers;
            };
      }
