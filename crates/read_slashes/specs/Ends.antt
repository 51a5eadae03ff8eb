-- The place after the empty lines that follow `//`, and how a record ends.
use Rattle.std.specs.Prelude.{ℕ, ◌≤◌, ◌≡◌, List, length, drop}
use Rattle.spec_format.specs.Readers.{line_end, while_fits}
use Rattle.spec_format.specs.Table.{Table}
use Rattle.spec_format.specs.Record.{Outcome, was_read, not_read, left_by, slashes_at}
use Rattle.spec_format.specs.declared.Unread.TheVariants as unread
use Rattle.read_slashes.specs.declared.RecordEnd.{RecordEnd}
use Rattle.read_slashes.specs.declared.RecordEnd.TheVariants as ended

pub record EmptyPassed (s : List ℕ) (at r : ℕ) : Type 0 where
  pub is : left_by (drop at s) (while_fits line_end (drop at s)) ≡ drop r s
  pub from : at ≤ r
  pub within : r ≤ length s

-- a table, and how its record ends
abbrev pub end_of : List ℕ → Table → RecordEnd → Outcome
end_of s t (ended.At n) = was_read t (drop n s)
end_of s t ended.NoSlashes = not_read unread.NoSlashes
end_of s t ended.Unended = not_read unread.Unended

abbrev pub PastEnd : List ℕ → ℕ → RecordEnd → Type 0
PastEnd s at (ended.At n) = (at ≤ n) × (n ≤ length s)
PastEnd s at ended.NoSlashes = Unit
PastEnd s at ended.Unended = Unit

-- whatever table was read
pub record Ended (s : List ℕ) (at : ℕ) (r : RecordEnd) : Type 0 where
  pub is : (t : Table) → end_of s t r ≡ slashes_at t (drop at s)
  pub place : PastEnd s at r
