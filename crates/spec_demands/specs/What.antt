-- What the demands speak of: more room, the same table again, and the line of a trouble.
use Rattle.std.specs.Prelude.{ℕ, ◌+◌, ◌-◌, ◌*◌, ◌≤◌, ◌<◌, Bool, true, false, ◌||◌, List, ◌↔◌, ◌⊎◌, ◌≡◌, eqb, length, get_or, take, drop}
use Rattle.spec_format.specs.Bytes.{May, absent, is}
use Rattle.spec_format.specs.Numbers.{read_number, write_number, write_value}
use Rattle.spec_format.specs.Rooms.{Rooms, table_of, fits, over_rooms}
use Rattle.spec_format.specs.declared.Head.{Head}
use Rattle.spec_format.specs.declared.How.{How}
use Rattle.spec_format.specs.declared.ReadAnswer.{ReadAnswer}
use Rattle.spec_format.specs.declared.ReadAnswer.TheVariants as read
use Rattle.spec_format.specs.declared.Sizes.{Sizes}
use Rattle.spec_format.specs.declared.WriteAnswer.{WriteAnswer}
use Rattle.spec_lines.specs.Lines.{feeds}
use Rattle.spec_lines.specs.Stands.{Stands}
use Rattle.spec_lines.specs.Troubles.{searched, troubled}
use Rattle.spec_contracts.specs.Numbers.{head_from}
use Rattle.spec_contracts.specs.Reads.{Answered}
use Rattle.spec_contracts.specs.Writes.{WriteAnswered}
use Rattle.spec_contracts.specs.declared.Reading.{Reading}

-- n is more than the rooms `lent` hold, and a call on the same slice and place, with the same switch, succeeds exactly where the rooms hold n: so n is exact
pub record MoreRoom (strict : Bool) (s : List ℕ) (at : ℕ) (lent : Rooms) (n : Sizes) : Type 0 where
  pub short : fits n lent ≡ false
  pub exact : (more after : Rooms) (a : ReadAnswer) → Answered strict s at more after a → (read_number a ≡ 0) ↔ (fits n more ≡ true)

-- what a success lays over the rooms `more` has the sizes n
pub record Uses (n : Sizes) (more after : Rooms) : Type 0 where
  pub laid : Rooms
  pub after_is : after ≡ over_rooms laid more
  pub texts : length laid.texts ≡ n.texts
  pub references : length laid.references ≡ 14 * n.references
  pub comments : length laid.comments ≡ 2 * n.comments
  pub features : length laid.features ≡ 8 * n.features
  pub qualifiers : length laid.qualifiers ≡ 4 * n.qualifiers
  pub locations : length laid.locations ≡ 7 * n.locations
  pub letters : length laid.letters ≡ n.letters

-- k is more than n bytes, and a call with the same table succeeds exactly where the slice has k bytes, and then writes k
pub record MoreBytes (how : How) (r : Rooms) (h : Head) (n k : ℕ) : Type 0 where
  pub short : n < k
  pub exact : (more after : List ℕ) (a : WriteAnswer) → WriteAnswered how r h more after a → (write_number a ≡ 0) ↔ (k ≤ length more)
  pub counted : (more after : List ℕ) (a : WriteAnswer) → WriteAnswered how r h more after a → write_number a ≡ 0 → write_value a ≡ k

-- the reader is done at place k, and the head that it answers and the rooms that it leaves hold the table of r and h
pub record Same (r : Rooms) (h : Head) (k : ℕ) (after : Rooms) (a : ReadAnswer) : Type 0 where
  pub head : Head
  pub done : a ≡ read.Done head k
  pub same : table_of after head ≡ table_of r h

-- the same of what `vilggodan_read` returns, for a table whose head was passed as numbers
pub record SameTold (r : Rooms) (ns : List ℕ) (k : ℕ) (after : Rooms) (told : Reading) : Type 0 where
  pub done : told.number ≡ 0
  pub place : told.place ≡ k
  pub same : table_of after (head_from told.head) ≡ table_of r (head_from ns)

-- ---- lines

-- the numbers that tell no line
abbrev pub lineless : ℕ → Bool
lineless n = eqb n 0 || (eqb n 1 || eqb n 3)

-- what stands from an answer's trouble on, where s stands from the place given on; 6 has its trouble at the LOCUS line
abbrev pub trouble_of : ReadAnswer → List ℕ → May (List ℕ)
trouble_of (read.Done head place) s = absent
trouble_of (read.Refused why) s = troubled why s
trouble_of (read.Room sizes) s = is (searched s)

-- THE LINE OF THE TROUBLE: with the answer a of a call on the slice s at the place `at`, line and offset are those of the line in which the trouble lies
pub record LineTold (s : List ℕ) (at : ℕ) (a : ReadAnswer) (line offset : ℕ) : Type 0 where
  -- what stands from the trouble on, and its place in the slice, `at` or later
  pub rest : List ℕ
  pub trouble : trouble_of a (drop at s) ≡ is rest
  pub place : ℕ
  pub stands : Stands s at rest place
  -- the offset is a line's first byte: the place given, or after an LF
  pub first : (offset ≡ at) ⊎ ((at < offset) × (get_or s (offset - 1) 0 ≡ 10))
  pub from : at ≤ offset
  pub within : offset ≤ length s
  -- the line is 1 and the LFs from the place given to the offset
  pub counted : line ≡ 1 + feeds (take (offset - at) (drop at s))
  -- the trouble lies in that line: no LF stands between the offset and the trouble
  pub to : offset ≤ place
  pub unbroken : feeds (take (place - offset) (drop offset s)) ≡ 0
