-- What the reader promises. It rules out a reader that always refuses, one that reads the first record from every place, one that leaves a room changed
-- where it refuses, one that tells the line after the trouble, and one that takes a stray letter though the switch is on.
use Rattle.std.specs.Prelude.{ℕ, ◌≡◌, Bool, List}
use Rattle.spec_format.specs.Rooms.{Rooms, read_answer, rooms_after, rooms_in}
use Rattle.spec_format.specs.declared.ReadAnswer.{ReadAnswer}
use Rattle.spec_lines.specs.Troubles.{read_spot}
use Rattle.base_rows.specs.declared.Feature.{Feature}
use Rattle.base_rows.specs.Rows.{flat}
use Rattle.spec_contracts.specs.declared.Reported.{Reported}

-- THE READER'S ANSWER, and each room afterwards, where the switch is on or off
pub record Answered (strict : Bool) (s : List ℕ) (at : ℕ) (old new : Rooms) (r : ReadAnswer) : Type 0 where
  pub is : r ≡ read_answer strict s at old
  pub texts : new.texts ≡ (rooms_after strict s at old).texts
  pub references : new.references ≡ (rooms_after strict s at old).references
  pub comments : new.comments ≡ (rooms_after strict s at old).comments
  pub features : new.features ≡ (rooms_after strict s at old).features
  pub qualifiers : new.qualifiers ≡ (rooms_after strict s at old).qualifiers
  pub locations : new.locations ≡ (rooms_after strict s at old).locations
  pub letters : new.letters ≡ (rooms_after strict s at old).letters

-- WHAT THE READER RETURNS: the answer, and the line that it tells
pub record ReadReported (strict : Bool) (s : List ℕ) (at : ℕ) (old new : Rooms) (r : Reported) : Type 0 where
  pub answered : Answered strict s at old new r.answer
  pub told : r.spot ≡ read_spot s at r.answer

-- ---- the features' room holds rows that are structs; definitions speak of their flat numbers

-- what a call is lent: all rooms, one of them of rows
pub record RowRooms : Type 0 where
  pub texts : List ℕ
  pub references : List ℕ
  pub comments : List ℕ
  pub rows : List Feature
  pub qualifiers : List ℕ
  pub locations : List ℕ
  pub letters : List ℕ

-- the same with flat numbers
abbrev pub flat_rooms : RowRooms → Rooms
flat_rooms x = rooms_in x.texts x.references x.comments (flat x.rows) x.qualifiers x.locations x.letters
