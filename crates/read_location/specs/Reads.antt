-- What the answers of the location's reader say of the text at a spot, and of the rows that were put.
use Rattle.std.specs.Prelude.{ℕ, ◌+◌, ◌*◌, ◌≤◌, ◌≡◌, true, List, length, take, drop}
use Rattle.std.proofs.lemmas.List.Edits.{sets}
use Rattle.spec_format.specs.Bytes.{same}
use Rattle.spec_format.specs.Table.{LocationRow}
use Rattle.spec_format.specs.Rooms.{location_numbers}
use Rattle.spec_format.specs.Location.{Found, found, fault, deep, closed, Reading, one, none, too_deep, whole}
use Rattle.scan_location_bytes.specs.declared.Laid.{Laid}
use Rattle.scan_location_bytes.specs.declared.Spot.{Spot}
use Rattle.scan_location_bytes.specs.Views.{view, Ready, Past}
use Rattle.read_location_row.specs.declared.Pen.{Pen}
use Rattle.read_location.specs.declared.RowsAt.{RowsAt}
use Rattle.read_location.specs.declared.RowsAt.TheVariants as rows_at
use Rattle.read_location.specs.declared.Location.{Location}
use Rattle.read_location.specs.declared.Location.TheVariants as locations
use Rattle.read_location_row.specs.Rows.{Noted}

-- the pen that puts rows from `first` on
abbrev pub starting : ℕ → Pen
starting first = record { row = first; same = true }

-- a spot and a pen from which to read: each row so far has a byte of its own, so that no number of a row wraps
pub record Stands (laid : Laid) (s : List ℕ) (p : Spot) (pen : Pen) : Type 0 where
  pub ready : Ready laid s p
  pub room : pen.row ≤ 16777216 + p.off

-- ---- the cycle

-- o was read from spot p up to q, its rows were put from `pen` on, which made `old` `new`, and none is without a byte of its own
pub record AtGot (o : Found (List LocationRow)) (laid : Laid) (s seen old : List ℕ) (p : Spot) (pen : Pen) (new : List ℕ) (q : Spot) (to : Pen) : Type 0 where
  pub rows : List LocationRow
  pub is : o ≡ found rows (view laid s q.at)
  pub noted : Noted seen old pen rows new to
  pub past : Past laid s p q
  pub few : length rows + p.off ≤ q.off

abbrev pub LocatedIs : Found (List LocationRow) → Laid → List ℕ → List ℕ → List ℕ → Spot → Pen → List ℕ → RowsAt → Type 0
LocatedIs o laid s seen old p pen new (rows_at.Got q to) = AtGot o laid s seen old p pen new q to
LocatedIs o laid s seen old p pen new rows_at.Fault = o ≡ fault
LocatedIs o laid s seen old p pen new rows_at.Deep = o ≡ deep

-- o is what r says, and where it is a reading, its rows were put
pub record Located (o : Found (List LocationRow)) (laid : Laid) (s seen old : List ℕ) (p : Spot) (pen : Pen) (new : List ℕ) (r : RowsAt) : Type 0 where
  pub by : LocatedIs o laid s seen old p pen new r

-- rows from `first` on stand before a spot
pub record Behind (laid : Laid) (s : List ℕ) (first : ℕ) (q : Spot) (to : Pen) : Type 0 where
  pub stands : Stands laid s q to
  pub from : first ≤ to.row

abbrev pub Closable : Laid → List ℕ → ℕ → RowsAt → Type 0
Closable laid s first (rows_at.Got q to) = Behind laid s first q to
Closable laid s first rows_at.Fault = Unit
Closable laid s first rows_at.Deep = Unit

-- whatever r says of members from row `first` on, t says of their word
pub record Closes (form first : ℕ) (laid : Laid) (s seen mid new : List ℕ) (r t : RowsAt) : Type 0 where
  pub by : (o : Found (List LocationRow)) (old : List ℕ) (p : Spot) (pen : Pen) → pen.row ≡ first → Located o laid s seen old p pen mid r
      → Located (closed form o) laid s seen old p pen new t

-- ---- the whole text

-- what is answered for a reading: its number of rows, and whether they stand in `seen` from row `first` on
abbrev pub location_of : List ℕ → ℕ → Reading → Location
location_of seen first (one ls) = locations.Read (length ls) (same (location_numbers ls) (take (7 * length ls) (drop (7 * first) seen)))
location_of seen first none = locations.None
location_of seen first too_deep = locations.TooDeep

-- the answer, and the rows of a reading put into `old` from row `first` on
pub record Answered (x : Reading) (seen old : List ℕ) (first : ℕ) (new : List ℕ) (r : Location) : Type 0 where
  pub is : r ≡ location_of seen first x
  pub put : (ls : List LocationRow) → x ≡ one ls → new ≡ sets old (7 * first) (location_numbers ls)

-- whatever r says of what was read from row `first` on, t answers of the whole text
pub record Ends (laid : Laid) (s : List ℕ) (first : ℕ) (r : RowsAt) (t : Location) : Type 0 where
  pub by : (o : Found (List LocationRow)) (seen old : List ℕ) (p : Spot) (new : List ℕ) → Located o laid s seen old p (starting first) new r
      → Answered (whole o) seen old first new t
