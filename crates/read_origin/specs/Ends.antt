-- What reading ORIGIN, the letters and the record's end answers, whatever table was read before.
use Rattle.std.specs.Prelude.{ℕ, ◌≤◌, Bool, ◌≡◌, List, [], length, drop, Option}
use Rattle.spec_format.specs.Bytes.{pick, letter, starts, not_blank}
use Rattle.spec_format.specs.Readers.{Ans, got, no, cut, bind, or_else, until, spaces1, line, line_end, utf8_of}
use Rattle.spec_format.specs.Table.{Table}
use Rattle.spec_format.specs.Origin.{origin_tag, letters}
use Rattle.spec_format.specs.Record.{Outcome, was_read, not_read, with_letters, slashes_at, sequence, after_origin}
use Rattle.spec_format.specs.Strict.{stray, stray_after, strictly}
use Rattle.spec_format.specs.Rooms.{may_length}
use Rattle.spec_format.specs.declared.Unread.{Unread}
use Rattle.spec_format.specs.declared.Unread.TheVariants as unread
use Rattle.scan_bytes.specs.Views.{step_of, Past}
use Rattle.scan_bytes.specs.declared.Step.{Step}
use Rattle.read_letters.specs.Runs.{sifted}
use Rattle.read_origin.specs.declared.EndAt.{EndAt}
use Rattle.read_origin.specs.declared.EndAt.TheVariants as ended

-- ---- ORIGIN: what may stand after the word

abbrev pub origin_blanks : List ℕ → Ans (List ℕ)
origin_blanks s = bind (until not_blank s) λ _ s. line_end s

abbrev pub origin_text : List ℕ → Ans (List ℕ)
origin_text s = bind (spaces1 s) λ _ s. utf8_of (line s)

abbrev pub origin_rest : List ℕ → Ans (List ℕ)
origin_rest s = or_else (origin_blanks s) (origin_text s)

-- an answer whose text is of no interest
abbrev pub passed : Ans (List ℕ) → Ans Unit
passed (got t r) = got tt r
passed no = no
passed cut = cut

pub record Passed (s : List ℕ) (at : ℕ) (o : Ans (List ℕ)) (r : Step) : Type 0 where
  pub is : step_of s r ≡ passed o
  pub place : Past s at r

-- number 9, or 16 of a letter
abbrev pub bad_by : List ℕ → Unread
bad_by s = pick (starts letter s) unread.StrayLetter unread.BadLetter

-- ---- what follows, as a function of the table that was read before, with the strict switch or without

-- `//` after these letters
unfoldable pub letters_then : List ℕ → List ℕ → Table → Outcome
letters_then l s t = slashes_at (with_letters t l) s

unfoldable pub sequence_then : Bool → List ℕ → Table → Outcome
sequence_then strict s t = strictly strict (stray s) (sequence t (letters s))

unfoldable pub origin_then : Bool → List ℕ → Table → Outcome
origin_then strict s t = strictly strict (stray_after (origin_tag s)) (after_origin t s (origin_tag s))

-- a table that has no letters yet, and LOCUS gave that length
pub record Before (given : Option ℕ) (t : Table) : Type 0 where
  pub none : t.letters ≡ []
  pub length : t.locus.length ≡ may_length given

pub record EndKnown (s : List ℕ) (given : Option ℕ) (o : Table → Outcome) (lettersAt count place : ℕ) : Type 0 where
  pub is : (t : Table) → Before given t → o t ≡ was_read (with_letters t (sifted (drop lettersAt s))) (drop place s)
  pub counted : count ≡ length (sifted (drop lettersAt s))
  pub lettered : lettersAt ≤ length s
  pub within : place ≤ length s

abbrev pub EndAs : List ℕ → Option ℕ → (Table → Outcome) → EndAt → Type 0
EndAs s given o (ended.Got lettersAt count place) = EndKnown s given o lettersAt count place
EndAs s given o (ended.Refused why) = (t : Table) → Before given t → o t ≡ not_read why

-- for each table before
pub record Ends (s : List ℕ) (given : Option ℕ) (o : Table → Outcome) (r : EndAt) : Type 0 where
  pub is : EndAs s given o r
