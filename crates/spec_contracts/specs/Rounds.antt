-- What the function behind the programs promises: a record read into rooms, and written again from them. It rules out one that writes though nothing was read, and one that tells no line.
use Rattle.std.specs.Prelude.{ℕ, Bool, false, List, ◌≡◌, replicate, None}
use Rattle.spec_format.specs.Rooms.{Rooms, read_answer, rooms_after}
use Rattle.spec_format.specs.declared.Head.{Head}
use Rattle.spec_format.specs.declared.How.{How}
use Rattle.spec_format.specs.declared.ReadAnswer.{ReadAnswer}
use Rattle.spec_format.specs.declared.ReadAnswer.TheVariants as read
use Rattle.spec_format.specs.declared.WriteAnswer.{WriteAnswer}
use Rattle.spec_lines.specs.Troubles.{read_spot}
use Rattle.base_rows.specs.declared.Feature.{Feature}
use Rattle.spec_contracts.specs.declared.Reported.{Reported}
use Rattle.spec_contracts.specs.Writes.{WriteAnswered}

-- the rows before anything is read into them: no proof writes them out
abbrev pub empty_row : Feature
empty_row = record { kind = record { start = 0; length = 0 }; location = record { start = 0; length = 0 }; first = 0; count = 0; row = 0; rows = 0 }

unfoldable pub empty_rows : List Feature
empty_rows = replicate 8192 empty_row

-- a head without anything
abbrev pub empty_head : Head
empty_head =
    record {
      name = None;
      length = None;
      molecule = None;
      circular = false;
      division = record { start = 0; length = 0 };
      date = None;
      definition = None;
      accession = None;
      version = None;
      dblink = None;
      keywords = None;
      source = None;
      references = 0;
      comments = 0;
      features = 0;
      contig = None;
      letters = 0;
    }

-- what is written of what was read: its head, as asked; or nothing, since no writer takes a width of 0
abbrev pub head_of : ReadAnswer → Head
head_of (read.Done h at) = h
head_of (read.Refused why) = empty_head
head_of (read.Room sizes) = empty_head

abbrev pub not_at_all : How → How
not_at_all how = record { keeping = how.keeping; width = 0; truncate = how.truncate; escape = how.escape }

abbrev pub how_after : ReadAnswer → How → How
how_after (read.Done h at) how = how
how_after (read.Refused why) how = not_at_all how
how_after (read.Room sizes) how = not_at_all how

-- THE ANSWERS AND THE ROOMS AFTERWARDS, of a record at a place of s, read into the rooms `old` and written to the slice `before`
pub record Rounds
    (strict : Bool) (s : List ℕ) (at : ℕ) (old : Rooms) (how : How) (texts references comments qualifiers locations letters before after : List ℕ)
    (r : Reported) (w : WriteAnswer) : Type 0 where
  pub is : r.answer ≡ read_answer strict s at old
  pub told : r.spot ≡ read_spot s at r.answer
  pub texts_are : texts ≡ (rooms_after strict s at old).texts
  pub references_are : references ≡ (rooms_after strict s at old).references
  pub comments_are : comments ≡ (rooms_after strict s at old).comments
  pub qualifiers_are : qualifiers ≡ (rooms_after strict s at old).qualifiers
  pub locations_are : locations ≡ (rooms_after strict s at old).locations
  pub letters_are : letters ≡ (rooms_after strict s at old).letters
  pub wrote : WriteAnswered (how_after r.answer how) (rooms_after strict s at old) (head_of r.answer) before after w
