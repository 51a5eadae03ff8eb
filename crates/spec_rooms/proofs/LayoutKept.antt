-- Rooms that a table was laid out over keep their lengths.
use Rattle.std.specs.Prelude.{ℕ, ◌*◌, ◌/◌, ◌≤◌, true, ◌≡◌, List, length}
use Rattle.std.proofs.Common.{arith, mul-le-mul_left, length-append, length-drop, leb-true}
use Rattle.std.proofs.Math.Nat.{mul-div-le}
use Rattle.spec_format.specs.Table.{Table}
use Rattle.spec_format.specs.Rooms.{Rooms}
use Rattle.spec_format.specs.Rooms.{layout, sizes, fits, over, over_rooms}
use Rattle.spec_rooms.specs.LayoutLengths.{Lengths, layout_lengths, Fitting, fitting, SameLengths}

-- ---- a room keeps its length

over_length : (new old : List ℕ) → length new ≤ length old → length (over new old) ≡ length old
over_length new old h = simp (length-append, length-drop) (omega arith)

-- n rows of w numbers fit a room of as many rows
rows_fit : (w n m k : ℕ) → k ≡ w * n → n ≤ m / w → k ≤ m
rows_fit w n m k e h =
    let a : w * n ≤ w * (m / w) = mul-le-mul_left w h in
    let b : w * (m / w) ≤ m = mul-div-le m w in
    omega arith

-- EVERY ROOM IS AS LONG AFTER A TABLE IS LAID OUT as before, where the table fits
pub layout_keeps : (t : Table) (r : Rooms) → fits (sizes t) r ≡ true → SameLengths r (over_rooms (layout t) r)
layout_keeps t r h =
    let f : Fitting (sizes t) r = fitting (sizes t) r h in
    let l : Lengths t = layout_lengths t in
    record {
      texts = over_length (layout t).texts r.texts (omega (arith, l.texts, leb-true (sizes t).texts (length r.texts) f.texts));
      references =
          over_length (layout t).references r.references
          (rows_fit 14 (sizes t).references (length r.references) _ l.references (leb-true (sizes t).references (length r.references / 14) f.references));
      comments =
          over_length (layout t).comments r.comments
          (rows_fit 2 (sizes t).comments (length r.comments) _ l.comments (leb-true (sizes t).comments (length r.comments / 2) f.comments));
      features =
          over_length (layout t).features r.features
          (rows_fit 8 (sizes t).features (length r.features) _ l.features (leb-true (sizes t).features (length r.features / 8) f.features));
      qualifiers =
          over_length (layout t).qualifiers r.qualifiers
          (rows_fit 4 (sizes t).qualifiers (length r.qualifiers) _ l.qualifiers (leb-true (sizes t).qualifiers (length r.qualifiers / 4) f.qualifiers));
      locations =
          over_length (layout t).locations r.locations
          (rows_fit 7 (sizes t).locations (length r.locations) _ l.locations (leb-true (sizes t).locations (length r.locations / 7) f.locations));
      letters = over_length (layout t).letters r.letters (omega (arith, l.letters, leb-true (sizes t).letters (length r.letters) f.letters));
    }
