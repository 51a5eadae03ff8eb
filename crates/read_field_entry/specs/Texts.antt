-- An entry's text, from its first byte on: its first line, and further lines at a column.
use Rattle.std.specs.Prelude.{ℕ, ◌+◌, ◌≤◌, ◌<◌, ◌≡◌, Bool, List, length, drop}
use Rattle.spec_format.specs.Bytes.{pick, each}
use Rattle.spec_format.specs.Readers.{Ans, got, no, cut, mapped, many0}
use Rattle.spec_format.specs.Header.{line_after, further_line}
use Rattle.scan_bytes.specs.Places.{part}
use Rattle.scan_utf8.specs.declared.State.{State}
use Rattle.scan_utf8.specs.States.{Ran}
use Rattle.read_field_entry.specs.declared.Piece.{Piece}
use Rattle.read_field_entry.specs.declared.Piece.TheVariants as piece
use Rattle.read_field_entry.specs.declared.Joined.{Joined}
use Rattle.read_field_entry.specs.declared.Joined.TheVariants as joined

-- what further lines at column n add to a text
abbrev pub further : ℕ → Bool → List ℕ → Ans (List ℕ)
further n keep s = mapped (each (line_after keep)) (many0 (further_line n) s)

-- a further line's text is from `from` up to `end`
abbrev pub piece_of : List ℕ → Piece → Ans (List ℕ)
piece_of s (piece.Got from end next) = got (part from end s) (drop next s)
piece_of s piece.No = no
piece_of s piece.Cut = cut

abbrev pub PastPiece : List ℕ → ℕ → Piece → Type 0
PastPiece s at (piece.Got from end next) = (at ≤ from) × (from ≤ end) × (end < next) × (next ≤ length s)
PastPiece s at piece.No = Unit
PastPiece s at piece.Cut = Unit

pub record Pieced (s : List ℕ) (at : ℕ) (o : Ans (List ℕ)) (r : Piece) : Type 0 where
  pub is : piece_of s r ≡ o
  pub place : PastPiece s at r

-- how long a text of `before` bytes is with a further line of n bytes
abbrev pub grown_by : Bool → ℕ → ℕ → ℕ
grown_by keep before n = pick keep (before + n + 1) (before + n)

-- a text that was read up to `next`; with `before` bytes in front it is `length` long, and both leave the test of UTF-8 in `state` where those left it in u
pub record Read (s : List ℕ) (at : ℕ) (o : Ans (List ℕ)) (u : State) (before size next : ℕ) (state : State) : Type 0 where
  pub the : List ℕ
  pub is : o ≡ got the (drop next s)
  pub sized : size ≡ before + length the
  pub ran : Ran u the state
  pub from : at ≤ next
  pub within : next ≤ length s
  pub small : size + at ≤ before + next

abbrev pub ReadAs : List ℕ → ℕ → Ans (List ℕ) → State → ℕ → Joined → Type 0
ReadAs s at o u before (joined.Got size next state) = Read s at o u before size next state
ReadAs s at o u before joined.No = o ≡ no
ReadAs s at o u before joined.Cut = o ≡ cut

pub record Joins (s : List ℕ) (at : ℕ) (o : Ans (List ℕ)) (u : State) (before : ℕ) (r : Joined) : Type 0 where
  pub is : ReadAs s at o u before r
