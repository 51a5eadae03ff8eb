-- What a search for the line of a place says at each turn: the line reached begins where the reader stands, or the place lies in it.
use Rattle.std.specs.Prelude.{ℕ, suc, ◌-◌, ◌≤◌, ◌<◌, ◌≡◌, true, false, List, length, drop, ltb}
use Rattle.spec_lines.specs.Lines.{feeds, line_start, spot_of}
use Rattle.spec_lines.specs.declared.Spot.{Spot}
use Rattle.scan_bytes.specs.Places.{part}
use Rattle.scan_lines.specs.Reached.{Fed}
use Rattle.scan_spot.specs.declared.Sought.{Sought}

abbrev pub first_line : ℕ → ℕ → Sought
first_line at place = record { more = ltb at place; spot = record { line = 1; offset = at } }

-- x is the line that begins at p, counted from `at` on
pub record Begun (s : List ℕ) (at p : ℕ) (x : Spot) : Type 0 where
  pub line_is : x.line ≡ suc (feeds (part at p s))
  pub offset_is : x.offset ≡ p
  pub begins : line_start (part at p s) ≡ p - at
  pub from : at ≤ p

-- where the search stands, with the reader at p: before the place, where a line begins; or the line is found
pub record Standing (s : List ℕ) (at place p : ℕ) (t : Sought) : Type 0 where
  pub on : t.more ≡ true → Begun s at p t.spot
  pub before : t.more ≡ true → p < place
  pub done : t.more ≡ false → t.spot ≡ spot_of s at (drop place s)

-- the reader came to `next` from the beginning of the line x, which lies before the place
pub record Arrived (s : List ℕ) (place : ℕ) (x : Spot) (next : ℕ) : Type 0 where
  pub fed : Fed s x.offset next
  pub before : x.offset < place
  pub within : place ≤ length s
  pub small : x.line ≤ suc x.offset

-- wherever x is counted from
pub record Turned (s : List ℕ) (place : ℕ) (x : Spot) (next : ℕ) (t : Sought) : Type 0 where
  pub go : (at : ℕ) → Begun s at x.offset x → Standing s at place next t
