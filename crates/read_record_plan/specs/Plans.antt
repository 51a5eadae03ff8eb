-- What the plan of a record says of the record that is read there.
use Rattle.std.specs.Prelude.{ℕ, ◌≤◌, Bool, ◌≡◌, List, length, drop, Option, Some, None}
use Rattle.spec_format.specs.Bytes.{pick}
use Rattle.spec_format.specs.Readers.{bind, while_fits}
use Rattle.spec_format.specs.Table.{Locus, Table}
use Rattle.spec_format.specs.Header.{Field, header_field}
use Rattle.spec_format.specs.Locus.{locus}
use Rattle.spec_format.specs.Record.{Outcome, was_read, not_read, most, with_letters, middle, deep_in, table_from, after_header, header, after_locus}
use Rattle.spec_format.specs.Strict.{letters_below, letters_after, stray_after, strictly}
use Rattle.spec_format.specs.Rooms.{may_length}
use Rattle.spec_format.specs.declared.Unread.TheVariants as unread
use Rattle.read_letters.specs.Runs.{sifted}
use Rattle.read_locus.specs.declared.LocusPlan.{LocusPlan}
use Rattle.read_locus.specs.declared.LocusPlan.TheVariants as plans
use Rattle.read_locus.specs.Plans.{planned, PlanEnds}
use Rattle.read_field_all.specs.Gathered.{fields_at, Gathered}
use Rattle.read_record_middle.specs.Middles.{middle_in, MiddleStands}
use Rattle.read_record_plan.specs.declared.Rest.{Rest}
use Rattle.read_record_plan.specs.declared.RestAt.{RestAt}
use Rattle.read_record_plan.specs.declared.RestAt.TheVariants as rest
use Rattle.read_record_plan.specs.declared.Plan.{Plan}
use Rattle.read_record_plan.specs.declared.PlanAt.{PlanAt}
use Rattle.read_record_plan.specs.declared.PlanAt.TheVariants as plan

abbrev pub length_in : LocusPlan → Option ℕ
length_in plans.Unknown = None
length_in (plans.Known name n molecule circular division date) = Some n

-- ---- after the header, whatever LOCUS and header were read, with the strict switch or without

unfoldable pub rest_then : Bool → List ℕ → Locus → List Field → Outcome
rest_then strict s l fs = strictly strict (stray_after (letters_below s)) (pick (deep_in s) (not_read unread.TooDeep) (after_header l fs (middle s)))

-- the table of what was read before and of what a plan says of the rest
unfoldable pub table_with : List ℕ → Locus → List Field → Rest → Table
table_with s l fs r = with_letters (table_from l fs (middle_in s r.features_at r.contig)) (sifted (drop r.letters_at s))

-- places and counts of the rest
pub record RestStands (s : List ℕ) (r : Rest) : Type 0 where
  pub middle : MiddleStands s r.features_at r.features r.contig r.contig_rows
  pub counted : r.letters ≡ length (sifted (drop r.letters_at s))
  pub lettered : r.letters_at ≤ length s
  pub within : r.place ≤ length s

pub record RestKnown (s : List ℕ) (given : Option ℕ) (o : Locus → List Field → Outcome) (r : Rest) : Type 0 where
  pub is : (l : Locus) (fs : List Field) → l.length ≡ may_length given → o l fs ≡ was_read (table_with s l fs r) (drop r.place s)
  pub stands : RestStands s r

abbrev pub RestAs : List ℕ → Option ℕ → (Locus → List Field → Outcome) → RestAt → Type 0
RestAs s given o (rest.Got r) = RestKnown s given o r
RestAs s given o (rest.Refused why) = (l : Locus) (fs : List Field) → l.length ≡ may_length given → o l fs ≡ not_read why

pub record Rests (s : List ℕ) (given : Option ℕ) (o : Locus → List Field → Outcome) (r : RestAt) : Type 0 where
  pub is : RestAs s given o r

-- ---- a whole record

unfoldable pub header_then : Bool → Locus → List ℕ → Outcome
header_then strict l s = strictly strict (stray_after (bind (while_fits header_field s) letters_after)) (header l s (while_fits header_field s))

unfoldable pub locus_then : Bool → List ℕ → Outcome
locus_then strict s = strictly strict (stray_after (bind (locus s) λ _ s. bind (while_fits header_field s) letters_after)) (after_locus (locus s))

-- the table that a plan stands for
abbrev pub plan_table : List ℕ → Plan → Table
plan_table s p = table_with s (planned s p.locus) (fields_at (drop p.header_at s)) p.rest

-- places and counts of the whole
pub record PlanStands (s : List ℕ) (p : Plan) : Type 0 where
  pub locus : PlanEnds (length s) p.locus
  pub headed : p.header_at ≤ length s
  pub header : Gathered s p.header_at (fields_at (drop p.header_at s)) p.header
  pub rest : RestStands s p.rest

-- the plan of a record in a slice that may be read
pub record Ready (s : List ℕ) (p : Plan) : Type 0 where
  pub stands : PlanStands s p
  pub most : length s ≤ most

pub record PlanIs (s : List ℕ) (o : Outcome) (p : Plan) : Type 0 where
  pub is : o ≡ was_read (plan_table s p) (drop p.rest.place s)
  pub stands : PlanStands s p

abbrev pub PlanAs : List ℕ → Outcome → PlanAt → Type 0
PlanAs s o (plan.Ready p) = PlanIs s o p
PlanAs s o (plan.Refused why) = o ≡ not_read why

pub record Plans (s : List ℕ) (o : Outcome) (r : PlanAt) : Type 0 where
  pub is : PlanAs s o r
