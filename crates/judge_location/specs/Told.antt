-- What is told of a location: number 10, and where that is not due number 11. Of the rooms only texts and locations matter.
use Rattle.std.specs.Prelude.{ℕ, ◌+◌, ◌*◌, ◌/◌, ◌≤◌, ◌≡◌, refl, Bool, true, false, ◌&&◌, List, [], eqb, length, Option, Some, None}
use Rattle.std.proofs.Common.{zero, suc, ◌-◌, sym, ◌∙◌, arith, le-leb}
use Rattle.std.proofs.lemmas.Bool.{true≢false, ne_eqb}
use Rattle.spec_format.specs.Bytes.{pick}
use Rattle.spec_format.specs.Location.{Reading, one, none, too_deep, reading, is_one, locates}
use Rattle.spec_format.specs.Rooms.{Rooms, rooms_in, may_contig, rows_from, location_row_in, locations_from, span_fine, read_as, location_fine, contig_text_fine}
use Rattle.spec_format.specs.WellFormed.{if_is, contig_fine}
use Rattle.spec_format.specs.declared.ContigText.{ContigText}
use Rattle.read_location.specs.Reads.{location_of}
use Rattle.read_location.specs.declared.Location.{Location}
use Rattle.read_location.specs.declared.Location.TheVariants as found
use Rattle.judge_location.specs.Rows.{same_rows}
use Rattle.judge_rooms.specs.Steps.{span_within}

abbrev pub location_rooms : List ℕ → List ℕ → Rooms
location_rooms t lo = rooms_in t [] [] [] [] lo []

-- by whether the rows are in order, and whether the text has a reading
abbrev pub told_by : Bool → Bool → Option Bool
told_by true reads = Some reads
told_by false reads = None

abbrev pub location_told : Bool → List ℕ → List ℕ → ℕ → ℕ → Option Bool
location_told gaps lo text row rows = told_by (location_fine gaps (location_rooms [] lo) text row rows) (locates gaps text)

abbrev pub contig_told : List ℕ → List ℕ → Option ContigText → Option Bool
contig_told t lo c = told_by (contig_text_fine (location_rooms t lo) c) (if_is contig_fine (may_contig (location_rooms t lo) c))

-- what is told of a location with so many rows in their room by what was found in its text
abbrev pub found_told : ℕ → Location → Option Bool
found_told rows (found.Read n same) = told_by (eqb n rows && same) true
found_told rows found.None = Some false
found_told rows found.TooDeep = Some false

found_by : (r : Rooms) (row rows : ℕ) (x : Reading) → 7 * (row + rows) ≤ length r.locations
    → found_told rows (location_of r.locations row x) ≡ told_by (read_as x (locations_from r row rows)) (is_one x)
found_by r row rows (one ls) h = rw (same_rows r row rows ls h)
found_by r row rows none h = refl
found_by r row rows too_deep h = refl

span_none : (room : ℕ) → span_fine room 0 0 ≡ true
span_none room = rw (le-leb 0 room (omega arith), le-leb 0 (room - 0) (omega arith))

-- where the rows of a location are looked for: those of none start nowhere
unfoldable pub first_of : ℕ → ℕ → ℕ
first_of row rows = pick (eqb rows 0) 0 row

-- a location by whether its rows lie in their room
module _ (gaps : Bool) (lo text : List ℕ) where
  pub told_outside : (row rows : ℕ) → span_fine (length lo / 7) (first_of row rows) rows ≡ false → location_told gaps lo text row rows ≡ None
  unfolding location_fine first_of
  told_outside row zero h = absurd (true≢false (sym (span_none (length lo / 7)) ∙ h))
  told_outside row (suc rows) h =
      let n : eqb (suc rows) 0 ≡ false = ne_eqb (suc rows) 0 (λ z. omega arith) in
      let k : span_fine (length lo / 7) row (suc rows) ≡ false = rw n at h in rw (n, k)

  pub told_found : (row rows : ℕ) → span_fine (length lo / 7) (first_of row rows) rows ≡ true
      → location_told gaps lo text row rows ≡ found_told rows (location_of lo (first_of row rows) (reading gaps text))
  unfolding location_fine rows_from first_of
  told_found row zero h = sym (found_by (location_rooms [] lo) 0 0 (reading gaps text) (omega arith))
  told_found row (suc rows) h =
      let n : eqb (suc rows) 0 ≡ false = ne_eqb (suc rows) 0 (λ z. omega arith) in
      let k : span_fine (length lo / 7) row (suc rows) ≡ true = rw n at h in
      rw (n, k) (sym (found_by (location_rooms [] lo) row (suc rows) (reading gaps text) (omega (arith, span_within (length lo / 7) row (suc rows) k))))

pub ruleset told = (told_outside, told_found)

-- of all rooms
pub location_fine_alike : (gaps : Bool) (r : Rooms) (text : List ℕ) (row rows : ℕ)
    → location_fine gaps (location_rooms [] r.locations) text row rows ≡ location_fine gaps r text row rows
unfolding location_fine location_row_in
location_fine_alike gaps r text row rows = refl

pub contig_fine_alike : (r : Rooms) (c : Option ContigText) → contig_text_fine (location_rooms r.texts r.locations) c ≡ contig_text_fine r c
unfolding location_fine location_row_in
contig_fine_alike r None = refl
contig_fine_alike r (Some c) = refl

pub contig_formed_alike : (r : Rooms) (c : Option ContigText)
    → if_is contig_fine (may_contig (location_rooms r.texts r.locations) c) ≡ if_is contig_fine (may_contig r c)
contig_formed_alike r None = refl
contig_formed_alike r (Some c) = refl

-- what a told location says of numbers 10 and 11
pub told_none : (fine reads : Bool) → told_by fine reads ≡ None → fine ≡ false
told_none true reads h = cc
told_none false reads h = refl

pub told_some : (fine reads x : Bool) → told_by fine reads ≡ Some x → (fine ≡ true) × (reads ≡ x)
told_some true reads x h = (refl, cc)
told_some false reads x h = cc
