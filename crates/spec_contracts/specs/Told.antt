-- What the exported functions return: the answers of reader and writer as numbers, by value. This rules out a number that is always the same, a head that is not the record's,
-- sizes that are not the answer's, and line and offset told in each other's place.
use Rattle.std.specs.Prelude.{ℕ, ◌≡◌, Bool, List, replicate}
use Rattle.spec_format.specs.Numbers.{read_number, read_place, write_number, write_value}
use Rattle.spec_format.specs.Rooms.{Rooms}
use Rattle.spec_format.specs.declared.How.{How}
use Rattle.spec_format.specs.declared.Sizes.{Sizes}
use Rattle.spec_format.specs.declared.ReadAnswer.{ReadAnswer}
use Rattle.spec_format.specs.declared.ReadAnswer.TheVariants as answer
use Rattle.spec_format.specs.declared.WriteAnswer.{WriteAnswer}
use Rattle.spec_lines.specs.declared.Spot.{Spot}
use Rattle.spec_contracts.specs.declared.Reported.{Reported}
use Rattle.spec_contracts.specs.declared.Reading.{Reading}
use Rattle.spec_contracts.specs.declared.Writing.{Writing}
use Rattle.spec_contracts.specs.Numbers.{head_numbers, head_from}
use Rattle.spec_contracts.specs.Reads.{ReadReported}
use Rattle.spec_contracts.specs.Writes.{WriteAnswered}

-- ---- reading

abbrev pub no_head : List ℕ
no_head = replicate 33 0

abbrev pub no_sizes : Sizes
no_sizes = record { texts = 0; references = 0; comments = 0; features = 0; qualifiers = 0; locations = 0; letters = 0 }

abbrev pub head_told : ReadAnswer → List ℕ
head_told (answer.Done h place) = head_numbers h
head_told (answer.Refused why) = no_head
head_told (answer.Room n) = no_head

abbrev pub sizes_told : ReadAnswer → Sizes
sizes_told (answer.Done h place) = no_sizes
sizes_told (answer.Refused why) = no_sizes
sizes_told (answer.Room n) = n

abbrev pub reported : ReadAnswer → Spot → Reported
reported a p = record { answer = a; spot = p }

abbrev pub reading : ℕ → Reported → Reading
reading at r =
    record {
      number = read_number r.answer;
      place = read_place at r.answer;
      line = r.spot.line;
      offset = r.spot.offset;
      head = head_told r.answer;
      sizes = sizes_told r.answer;
    }

-- WHAT `vilggodan_read` RETURNS: the reader's answer as numbers; the rooms are the reader's
pub record ReadTold (strict : Bool) (s : List ℕ) (at : ℕ) (old new : Rooms) (told : Reading) : Type 0 where
  pub answer : Reported
  pub answered : ReadReported strict s at old new answer
  pub is : told ≡ reading at answer

-- ---- writing

abbrev pub writing : WriteAnswer → Writing
writing a = record { number = write_number a; count = write_value a }

abbrev pub how_of : Bool → ℕ → Bool → Bool → How
how_of keep W truncate escape = record { keeping = keep; width = W; truncate = truncate; escape = escape }

-- WHAT `vilggodan_write` RETURNS of the rooms r and the head that the numbers ns stand for; the slice is the writer's
pub record WriteTold (how : How) (r : Rooms) (ns old new : List ℕ) (told : Writing) : Type 0 where
  pub answer : WriteAnswer
  pub answered : WriteAnswered how r (head_from ns) old new answer
  pub is : told ≡ writing answer
