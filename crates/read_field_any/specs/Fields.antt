-- A field of the header as the code answers it.
use Rattle.std.specs.Prelude.{ℕ, ◌≤◌, ◌<◌, ◌≡◌, true, List, length, drop}
use Rattle.spec_format.specs.Bytes.{bytes}
use Rattle.spec_format.specs.Readers.{Ans, got, no, cut}
use Rattle.spec_format.specs.Table.{Source, Reference}
use Rattle.spec_format.specs.Header as format
use Rattle.read_field_entry.specs.declared.Entry.{Entry}
use Rattle.read_field_optional.specs.declared.MayEntry.{MayEntry}
use Rattle.read_field_optional.specs.Fields.{Stands, MayStand}
use Rattle.read_field_reference.specs.declared.ReferenceEntries.{ReferenceEntries}
use Rattle.read_field_reference.specs.References.{ReferenceKnown}
use Rattle.read_field_any.specs.declared.Field.{Field}
use Rattle.read_field_any.specs.declared.Field.TheVariants as field
use Rattle.read_field_any.specs.declared.FieldAt.{FieldAt}
use Rattle.read_field_any.specs.declared.FieldAt.TheVariants as read

-- the field is an entry with that word
pub record EntryIs (s : List ℕ) (at next : ℕ) (word : List ℕ) (x : format.Field) (e : Entry) : Type 0 where
  pub text : List ℕ
  pub is : x ≡ format.entry_of word text
  pub stands : Stands s at true text e
  pub until : e.next ≤ next

pub record SourceIs (s : List ℕ) (at next : ℕ) (x : format.Field) (text : Entry) (organism : MayEntry) : Type 0 where
  pub the : Source
  pub is : x ≡ format.source_of the
  pub stands : Stands s at true the.text text
  pub may : MayStand s at true the.organism organism

pub record ReferenceIs (s : List ℕ) (at next : ℕ) (x : format.Field) (entries : ReferenceEntries) (bytes : ℕ) : Type 0 where
  pub the : Reference
  pub is : x ≡ format.reference_of the
  pub known : ReferenceKnown s at the entries bytes next

-- the field x is the one that the code answers
abbrev pub FieldIs : List ℕ → ℕ → ℕ → format.Field → Field → Type 0
FieldIs s at next x (field.Definition e) = EntryIs s at next (bytes "DEFINITION") x e
FieldIs s at next x (field.Accession e) = EntryIs s at next (bytes "ACCESSION") x e
FieldIs s at next x (field.Version e) = EntryIs s at next (bytes "VERSION") x e
FieldIs s at next x (field.Dblink e) = EntryIs s at next (bytes "DBLINK") x e
FieldIs s at next x (field.Keywords e) = EntryIs s at next (bytes "KEYWORDS") x e
FieldIs s at next x (field.Source text organism) = SourceIs s at next x text organism
FieldIs s at next x (field.Reference entries n) = ReferenceIs s at next x entries n
FieldIs s at next x (field.Comment e) = EntryIs s at next (bytes "COMMENT") x e
FieldIs s at next x field.Dropped = x ≡ format.dropped

pub record FieldKnown (s : List ℕ) (at : ℕ) (o : Ans format.Field) (f : Field) (next : ℕ) : Type 0 where
  pub the : format.Field
  pub is : o ≡ got the (drop next s)
  pub one : FieldIs s at next the f
  pub ahead : at < next
  pub within : next ≤ length s

abbrev pub FieldAs : List ℕ → ℕ → Ans format.Field → FieldAt → Type 0
FieldAs s at o (read.Got f next) = FieldKnown s at o f next
FieldAs s at o read.No = o ≡ no
FieldAs s at o read.Cut = o ≡ cut

pub record FieldRead (s : List ℕ) (at : ℕ) (o : Ans format.Field) (r : FieldAt) : Type 0 where
  pub is : FieldAs s at o r
