-- What the functions promise that find the place of a trouble.
use Rattle.std.specs.Prelude.{ℕ, ◌≤◌, ◌≡◌, Bool, true, false, List, [], length, drop}
use Rattle.spec_format.specs.Bytes.{pick, May, absent, is}
use Rattle.spec_format.specs.Deep.{deep_feature}
use Rattle.spec_format.specs.Origin.{origin_tag}
use Rattle.spec_format.specs.Readers.{Ans, got, no, cut}
use Rattle.spec_format.specs.Record.{not_read, left_by, base_count, middle}
use Rattle.spec_format.specs.Strict.{record_by}
use Rattle.spec_format.specs.Rooms.{Rooms, read_answer}
use Rattle.spec_format.specs.declared.Unread.{Unread}
use Rattle.spec_format.specs.declared.ReadAnswer.{ReadAnswer}
use Rattle.spec_lines.specs.declared.Spot.{Spot}
use Rattle.spec_lines.specs.Troubles.{letters_end, troubled, read_spot}
use Rattle.read_letters.specs.Runs.{letters_by}

-- where the letters that are taken end: `sections_end`, and with the strict switch the stray letter if there is one
abbrev pub after_tag_by : Bool → List ℕ → Ans (List ℕ) → List ℕ
after_tag_by strict s (got u r) = letters_end (letters_by strict r)
after_tag_by strict s no = s
after_tag_by strict s cut = s

abbrev pub origin_ends_by : Bool → List ℕ → List ℕ
origin_ends_by strict s = after_tag_by strict s (origin_tag s)

unfoldable pub sections_end_by : Bool → List ℕ → List ℕ
sections_end_by strict s = origin_ends_by strict (left_by s (middle s))

-- `Stands`, where no location is too deep: the trouble is another one where one is
pub record Shallow (deep : Bool) (s : List ℕ) (at : ℕ) (t : List ℕ) (r : ℕ) : Type 0 where
  pub is : deep ≡ false → drop r s ≡ t
  pub from : at ≤ r
  pub within : r ≤ length s

-- `deep_place` from where the features of a table end
abbrev pub deep_at : List ℕ → List ℕ
deep_at s = pick (deep_feature s) s (left_by s (base_count s))

-- whether a trouble has a place
abbrev pub standing : May (List ℕ) → Bool
standing absent = false
standing (is t) = true

abbrev pub lined : Unread → Bool
lined why = standing (troubled why [])

-- the trouble stands at r, if it has a place at all
abbrev pub StandsAt : List ℕ → May (List ℕ) → ℕ → Type 0
StandsAt s absent r = Unit
StandsAt s (is t) r = drop r s ≡ t

-- where the record at `at` is not read for this reason, with the strict switch or without
pub record Found (s : List ℕ) (at : ℕ) (why : Unread) (r : ℕ) : Type 0 where
  pub is : (strict : Bool) → record_by strict (drop at s) ≡ not_read why → StandsAt s (troubled why (drop at s)) r
  pub from : at ≤ r
  pub within : r ≤ length s

-- the line that an answer tells, if it is the reader's
pub record SpotTold (s : List ℕ) (at : ℕ) (a : ReadAnswer) (r : Spot) : Type 0 where
  pub is : (strict : Bool) (rooms : Rooms) → a ≡ read_answer strict s at rooms → r ≡ read_spot s at a
