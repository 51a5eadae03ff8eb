-- How long a layout is, and that a room which it fits is as long after it as before.
use Rattle.std.specs.Prelude.{ℕ, ◌+◌, ◌*◌, ◌/◌, Bool, true, false, ◌&&◌, ◌≡◌, refl, List, [], ◌∷◌, ◌++◌, length, leb}
use Rattle.std.proofs.Common.{arith, length-append}
use Rattle.spec_format.specs.Bytes.{each}
use Rattle.spec_format.specs.Table.{Feature, Table}
use Rattle.spec_format.specs.Rooms.{Rooms, pieces_text, pieces_row, reference_pieces, comment_pieces, feature_pieces, qualifier_pieces, feature_text, feature_rows, qualifier_rows}
use Rattle.spec_format.specs.Rooms.{qualifier_count, feature_locations, location_numbers, contig_rows, references_at, comments_at, features_at, layout, sizes, fits}
use Rattle.spec_format.specs.declared.Sizes.{Sizes}
use Rattle.spec_rooms.specs.Rows.{pieces_long, InRows, laid_long, rows_long}
use Rattle.spec_rooms.specs.LayoutBack.{fourteen_wide, two_wide, four_wide, numbers_seven, locations_long}

pub and_left : (x y : Bool) → (x && y) ≡ true → x ≡ true
and_left true y e = refl
and_left false y e = e

pub and_right : (x y : Bool) → (x && y) ≡ true → y ≡ true
and_right true y e = e
and_right false true e = refl
and_right false false e = e

-- ---- a layout's lengths: as many rows as the size says, of as many numbers as the row is wide

-- a feature's row hangs on where its texts, its qualifiers and its location rows start
features_in_rows : InRows {S = ℕ × (ℕ × ℕ)} (λ s fs. feature_rows s.0 s.1.0 s.1.1 fs) 8
unfolding feature_rows
features_in_rows =
    record {
      row = λ s f. pieces_row s.0 (feature_pieces f) ++ s.1.0 ∷ length f.qualifiers ∷ s.1.1 ∷ length f.rows ∷ [];
      next = λ s f. (s.0 + length (feature_text f), (s.1.0 + length f.qualifiers, s.1.1 + length f.rows));
      wide = λ s f. simp length-append (omega (arith, pieces_long s.0 (feature_pieces f)));
      none = λ s. refl;
      more = λ s f fs. refl;
    }

qualifier_rows_long : (start : ℕ) (fs : List Feature) → length (qualifier_rows start fs) ≡ 4 * qualifier_count fs
unfolding qualifier_rows qualifier_count
qualifier_rows_long start [] = refl
qualifier_rows_long start (f ∷ fs) =
    simp length-append
    (omega (
      arith,
      rows_long qualifier_pieces 4 four_wide (start + length (pieces_text (feature_pieces f))) f.qualifiers,
      qualifier_rows_long (start + length (feature_text f)) fs,
    ))

pub record Lengths (t : Table) : Type 0 where
  pub texts : length (layout t).texts ≡ (sizes t).texts
  pub references : length (layout t).references ≡ 14 * (sizes t).references
  pub comments : length (layout t).comments ≡ 2 * (sizes t).comments
  pub features : length (layout t).features ≡ 8 * (sizes t).features
  pub qualifiers : length (layout t).qualifiers ≡ 4 * (sizes t).qualifiers
  pub locations : length (layout t).locations ≡ 7 * (sizes t).locations
  pub letters : length (layout t).letters ≡ (sizes t).letters

pub layout_lengths : (t : Table) → Lengths t
unfolding layout sizes
layout_lengths t =
    record {
      texts = refl;
      references = rows_long reference_pieces 14 fourteen_wide (references_at t) t.references;
      comments = rows_long comment_pieces 2 two_wide (comments_at t) t.comments;
      features = laid_long _ 8 features_in_rows (features_at t, (0, 0)) t.features;
      qualifiers = qualifier_rows_long (features_at t) t.features;
      locations =
          rw (length-append (each feature_locations t.features) (location_numbers (contig_rows t.contig)))
          (omega (arith, locations_long t.features, numbers_seven (contig_rows t.contig)));
      letters = refl;
    }

-- ---- a room keeps its length

-- what a table that fits says of each room
pub record Fitting (n : Sizes) (r : Rooms) : Type 0 where
  pub texts : leb n.texts (length r.texts) ≡ true
  pub references : leb n.references (length r.references / 14) ≡ true
  pub comments : leb n.comments (length r.comments / 2) ≡ true
  pub features : leb n.features (length r.features / 8) ≡ true
  pub qualifiers : leb n.qualifiers (length r.qualifiers / 4) ≡ true
  pub locations : leb n.locations (length r.locations / 7) ≡ true
  pub letters : leb n.letters (length r.letters) ≡ true

pub fitting : (n : Sizes) (r : Rooms) → fits n r ≡ true → Fitting n r
unfolding fits
fitting n r h =
    let h₁ = and_right (leb n.texts (length r.texts)) _ h in
    let h₂ = and_right (leb n.references (length r.references / 14)) _ h₁ in
    let h₃ = and_right (leb n.comments (length r.comments / 2)) _ h₂ in
    let h₄ = and_right (leb n.features (length r.features / 8)) _ h₃ in
    let h₅ = and_right (leb n.qualifiers (length r.qualifiers / 4)) _ h₄ in
    record {
      texts = and_left (leb n.texts (length r.texts)) _ h;
      references = and_left (leb n.references (length r.references / 14)) _ h₁;
      comments = and_left (leb n.comments (length r.comments / 2)) _ h₂;
      features = and_left (leb n.features (length r.features / 8)) _ h₃;
      qualifiers = and_left (leb n.qualifiers (length r.qualifiers / 4)) _ h₄;
      locations = and_left (leb n.locations (length r.locations / 7)) _ h₅;
      letters = and_right (leb n.locations (length r.locations / 7)) _ h₅;
    }

pub record SameLengths (r r' : Rooms) : Type 0 where
  pub texts : length r'.texts ≡ length r.texts
  pub references : length r'.references ≡ length r.references
  pub comments : length r'.comments ≡ length r.comments
  pub features : length r'.features ≡ length r.features
  pub qualifiers : length r'.qualifiers ≡ length r.qualifiers
  pub locations : length r'.locations ≡ length r.locations
  pub letters : length r'.letters ≡ length r.letters
