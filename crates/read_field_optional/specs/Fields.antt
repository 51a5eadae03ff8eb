-- Fields of the header as the code answers them.
use Rattle.std.specs.Prelude.{ℕ, ◌+◌, ◌≤◌, ◌<◌, ◌≡◌, Bool, true, List, length, drop}
use Rattle.spec_format.specs.Bytes.{May, absent, is, bytes}
use Rattle.spec_format.specs.Readers.{Ans, got, no, cut, or_else, tag}
use Rattle.spec_format.specs.Header.{field_text}
use Rattle.spec_format.specs.Table.{Source}
use Rattle.read_field_entry.specs.declared.Entry.{Entry}
use Rattle.read_field_optional.specs.declared.MayEntry.{MayEntry}
use Rattle.read_field_optional.specs.declared.MayEntry.TheVariants as may
use Rattle.read_field_optional.specs.declared.MayEntryAt.{MayEntryAt}
use Rattle.read_field_optional.specs.declared.MayEntryAt.TheVariants as may_at
use Rattle.read_field_optional.specs.declared.SourceAt.{SourceAt}
use Rattle.read_field_optional.specs.declared.SourceAt.TheVariants as source

-- a word at which no line is dropped, tried in the Rust's order
unfoldable pub section_word : List ℕ → Ans Unit
section_word s = or_else (or_else (tag (bytes "ORIGIN") s) (tag (bytes "CONTIG") s)) (or_else (tag (bytes "FEATURES") s) (tag (bytes "//") s))

-- the text t stands where the entry says
pub record Stands (s : List ℕ) (at : ℕ) (keep : Bool) (t : List ℕ) (e : Entry) : Type 0 where
  pub again : field_text e.columns keep (drop e.text s) ≡ got t (drop e.next s)
  pub sized : e.length ≡ length t
  pub from : at ≤ e.text
  pub ahead : e.text < e.next
  pub within : e.next ≤ length s
  pub small : e.length + e.text ≤ e.next

abbrev pub MayStand : List ℕ → ℕ → Bool → May (List ℕ) → MayEntry → Type 0
MayStand s at keep absent may.Absent = Unit
MayStand s at keep absent (may.Is e) = ⊥
MayStand s at keep (is t) may.Absent = ⊥
MayStand s at keep (is t) (may.Is e) = Stands s at keep t e

-- how many bytes the text of an entry has, none where it is missing
abbrev pub may_length : MayEntry → ℕ
may_length may.Absent = 0
may_length (may.Is e) = e.length

pub record MayKnown (s : List ℕ) (at : ℕ) (keep : Bool) (o : Ans (May (List ℕ))) (e : MayEntry) (next : ℕ) : Type 0 where
  pub the : May (List ℕ)
  pub is : o ≡ got the (drop next s)
  pub stands : MayStand s at keep the e
  pub from : at ≤ next
  pub within : next ≤ length s
  pub small : may_length e + at ≤ next

abbrev pub MayEnterAs : List ℕ → ℕ → Bool → Ans (May (List ℕ)) → MayEntryAt → Type 0
MayEnterAs s at keep o (may_at.Got e next) = MayKnown s at keep o e next
MayEnterAs s at keep o may_at.Cut = o ≡ cut

pub record MayEnter (s : List ℕ) (at : ℕ) (keep : Bool) (o : Ans (May (List ℕ))) (r : MayEntryAt) : Type 0 where
  pub is : MayEnterAs s at keep o r

-- SOURCE's text, and ORGANISM's after it
pub record SourceKnown (s : List ℕ) (at : ℕ) (o : Ans Source) (text : Entry) (organism : MayEntry) (next : ℕ) : Type 0 where
  pub the : Source
  pub is : o ≡ got the (drop next s)
  pub stands : Stands s at true the.text text
  pub may : MayStand s text.next true the.organism organism
  pub from : text.next ≤ next
  pub within : next ≤ length s

abbrev pub SourceAs : List ℕ → ℕ → Ans Source → SourceAt → Type 0
SourceAs s at o (source.Got text organism next) = SourceKnown s at o text organism next
SourceAs s at o source.No = o ≡ no
SourceAs s at o source.Cut = o ≡ cut

pub record Sources (s : List ℕ) (at : ℕ) (o : Ans Source) (r : SourceAt) : Type 0 where
  pub is : SourceAs s at o r
