-- One field or else another: one law for each way out. Assumes nothing.
use Prim.Native.Nat.{ℕ, ◌≤◌}
use mathlib.Core.Path.{◌≡◌, refl, ap, subst}
use mathlib.Core.Bool.{true}
use mathlib.Core.List.{List}
use native.Mathlib.Omega.{arith}
use lib.ListN.{drop}
use Rattle.spec_format.specs.Bytes.{bytes}
use Rattle.spec_format.specs.Readers.{Ans, no, cut, mapped, or_else}
use Rattle.spec_format.specs.Table.{Source, Reference}
use Rattle.spec_format.specs.Header as format
use Rattle.spec_format.specs.Header.{source, reference, ignored_line, header_field}
use Rattle.scan_bytes.specs.declared.Line.{Line}
use Rattle.scan_bytes.specs.declared.Line.TheVariants as line
use Rattle.scan_bytes.specs.Views.{Lined}
use Rattle.scan_bytes.specs.Sequence.{line_places}
use Rattle.read_field_entry.specs.declared.Entry.{Entry}
use Rattle.read_field_entry.specs.declared.EntryAt.{EntryAt}
use Rattle.read_field_entry.specs.declared.EntryAt.TheVariants as entry
use Rattle.read_field_entry.specs.Entries.{Enters}
use Rattle.read_field_optional.specs.declared.MayEntry.{MayEntry}
use Rattle.read_field_optional.specs.declared.SourceAt.{SourceAt}
use Rattle.read_field_optional.specs.declared.SourceAt.TheVariants as source'
use Rattle.read_field_optional.specs.Fields.{SourceKnown, SourceAs, Sources}
use Rattle.read_field_optional.specs.Knowing.{known_entry, no_entry, cut_entry, entry_stands}
use Rattle.read_field_reference.specs.declared.ReferenceEntries.{ReferenceEntries}
use Rattle.read_field_reference.specs.declared.ReferenceAt.{ReferenceAt}
use Rattle.read_field_reference.specs.declared.ReferenceAt.TheVariants as reference'
use Rattle.read_field_reference.specs.Standing.{may_from}
use Rattle.read_field_reference.specs.References.{ReferenceGot, ReferenceAs, References}
use Rattle.read_field_any.specs.declared.Field.{Field}
use Rattle.read_field_any.specs.declared.Field.TheVariants as field
use Rattle.read_field_any.specs.declared.FieldAt.{FieldAt}
use Rattle.read_field_any.specs.declared.FieldAt.TheVariants as read
use Rattle.read_field_any.specs.Fields.{EntryIs, FieldIs, FieldRead}
use Rattle.read_field_any.specs.Tries.{from_accession, all_tried}

-- ---- entries with one text

module _ (s : List ℕ) (at : ℕ) (word : List ℕ) (p : Ans format.Field) (r : EntryAt) (h : Enters s at true (format.field 0 word true (drop at s)) r) where
  pub entry_cut : r ≡ entry.Cut → FieldRead s at (or_else (format.entry word (drop at s)) p) read.Cut
  entry_cut e = record { is = rw (cut_entry h e) }

  pub entry_no : (q : FieldAt) → r ≡ entry.No → FieldRead s at p q → FieldRead s at (or_else (format.entry word (drop at s)) p) q
  entry_no q e k = record { is = rw (no_entry h e) k.is }

  entry_got :
      (e : Entry) (f : Field) → ((x : format.Field) → EntryIs s at e.next word x e → FieldIs s at e.next x f) → r ≡ entry.Got e →
      FieldRead s at (or_else (format.entry word (drop at s)) p) (read.Got f e.next)
  entry_got e f one k =
      let w = known_entry h k in
      record {
        is = record {
          the = format.entry_of word w.the;
          is = ap (λ (o : Ans (List ℕ)). or_else (mapped (format.entry_of word) o) p) w.is;
          one = one _ (record { text = w.the; is = refl; stands = entry_stands w; until = omega arith });
          ahead = omega (arith, w.from, w.ahead);
          within = w.within;
        };
      }

module _ (s : List ℕ) (at : ℕ) (p : Ans format.Field) (r : EntryAt) (e : Entry) where
  pub definition_got :
      Enters s at true (format.field 0 (bytes "DEFINITION") true (drop at s)) r → r ≡ entry.Got e →
      FieldRead s at (or_else (format.entry (bytes "DEFINITION") (drop at s)) p) (read.Got (field.Definition e) e.next)
  definition_got h k = entry_got s at (bytes "DEFINITION") p r h e (field.Definition e) (λ x i. i) k

  pub accession_got :
      Enters s at true (format.field 0 (bytes "ACCESSION") true (drop at s)) r → r ≡ entry.Got e →
      FieldRead s at (or_else (format.entry (bytes "ACCESSION") (drop at s)) p) (read.Got (field.Accession e) e.next)
  accession_got h k = entry_got s at (bytes "ACCESSION") p r h e (field.Accession e) (λ x i. i) k

  pub version_got :
      Enters s at true (format.field 0 (bytes "VERSION") true (drop at s)) r → r ≡ entry.Got e →
      FieldRead s at (or_else (format.entry (bytes "VERSION") (drop at s)) p) (read.Got (field.Version e) e.next)
  version_got h k = entry_got s at (bytes "VERSION") p r h e (field.Version e) (λ x i. i) k

  pub dblink_got :
      Enters s at true (format.field 0 (bytes "DBLINK") true (drop at s)) r → r ≡ entry.Got e →
      FieldRead s at (or_else (format.entry (bytes "DBLINK") (drop at s)) p) (read.Got (field.Dblink e) e.next)
  dblink_got h k = entry_got s at (bytes "DBLINK") p r h e (field.Dblink e) (λ x i. i) k

  pub keywords_got :
      Enters s at true (format.field 0 (bytes "KEYWORDS") true (drop at s)) r → r ≡ entry.Got e →
      FieldRead s at (or_else (format.entry (bytes "KEYWORDS") (drop at s)) p) (read.Got (field.Keywords e) e.next)
  keywords_got h k = entry_got s at (bytes "KEYWORDS") p r h e (field.Keywords e) (λ x i. i) k

  pub comment_got :
      Enters s at true (format.field 0 (bytes "COMMENT") true (drop at s)) r → r ≡ entry.Got e →
      FieldRead s at (or_else (format.entry (bytes "COMMENT") (drop at s)) p) (read.Got (field.Comment e) e.next)
  comment_got h k = entry_got s at (bytes "COMMENT") p r h e (field.Comment e) (λ x i. i) k

pub ruleset entering = (entry_cut, entry_no, definition_got, accession_got, version_got, dblink_got, keywords_got, comment_got)

-- ---- SOURCE and REFERENCE

module _ (s : List ℕ) (at : ℕ) (p : Ans format.Field) (r : SourceAt) (h : Sources s at (source (drop at s)) r) where
  pub source_cut : r ≡ source'.Cut → FieldRead s at (or_else (mapped format.source_of (source (drop at s))) p) read.Cut
  source_cut e = let w : source (drop at s) ≡ cut = subst (λ (x : SourceAt). SourceAs s at (source (drop at s)) x) e h.is in record { is = rw w }

  pub source_no : (q : FieldAt) → r ≡ source'.No → FieldRead s at p q → FieldRead s at (or_else (mapped format.source_of (source (drop at s))) p) q
  source_no q e k = let w : source (drop at s) ≡ no = subst (λ (x : SourceAt). SourceAs s at (source (drop at s)) x) e h.is in record { is = rw w k.is }

  pub source_got :
      (text : Entry) (organism : MayEntry) (next : ℕ) → r ≡ source'.Got text organism next →
      FieldRead s at (or_else (mapped format.source_of (source (drop at s))) p) (read.Got (field.Source text organism) next)
  source_got text organism next e =
      let w : SourceKnown s at (source (drop at s)) text organism next = subst (λ (x : SourceAt). SourceAs s at (source (drop at s)) x) e h.is in
      let l : at ≤ text.next = omega (arith, w.stands.from, w.stands.ahead) in
      record {
        is = record {
          the = format.source_of w.the;
          is = ap (λ (o : Ans Source). or_else (mapped format.source_of o) p) w.is;
          one = record { the = w.the; is = refl; stands = w.stands; may = may_from s at text.next true w.the.organism organism l w.may };
          ahead = omega (arith, w.stands.from, w.stands.ahead, w.from);
          within = w.within;
        };
      }

module _ (s : List ℕ) (at : ℕ) (p : Ans format.Field) (r : ReferenceAt) (h : References s at (reference (drop at s)) r) where
  pub reference_cut : r ≡ reference'.Cut → FieldRead s at (or_else (mapped format.reference_of (reference (drop at s))) p) read.Cut
  reference_cut e =
      let w : reference (drop at s) ≡ cut = subst (λ (x : ReferenceAt). ReferenceAs s at (reference (drop at s)) x) e h.is in record { is = rw w }

  pub reference_no :
      (q : FieldAt) → r ≡ reference'.No → FieldRead s at p q → FieldRead s at (or_else (mapped format.reference_of (reference (drop at s))) p) q
  reference_no q e k =
      let w : reference (drop at s) ≡ no = subst (λ (x : ReferenceAt). ReferenceAs s at (reference (drop at s)) x) e h.is in record { is = rw w k.is }

  pub reference_got :
      (entries : ReferenceEntries) (n next : ℕ) → r ≡ reference'.Got entries n next →
      FieldRead s at (or_else (mapped format.reference_of (reference (drop at s))) p) (read.Got (field.Reference entries n) next)
  reference_got entries n next e =
      let w : ReferenceGot s at (reference (drop at s)) entries n next = subst (λ (x : ReferenceAt). ReferenceAs s at (reference (drop at s)) x) e h.is in
      record {
        is = record {
          the = format.reference_of w.the;
          is = ap (λ (o : Ans Reference). or_else (mapped format.reference_of o) p) w.is;
          one = record { the = w.the; is = refl; known = w.known };
          ahead = w.ahead;
          within = w.within;
        };
      }

pub ruleset nesting = (source_cut, source_no, source_got, reference_cut, reference_no, reference_got)

-- ---- lines that are dropped

module _ (s : List ℕ) (at : ℕ) (r : Line) (h : Lined s at (ignored_line (drop at s)) r) where
  pub dropped_no : r ≡ line.No → FieldRead s at (mapped (λ l. format.dropped) (ignored_line (drop at s))) read.No
  dropped_no e = record { is = rw (← h.is, e) }

  pub dropped_cut : r ≡ line.Cut → FieldRead s at (mapped (λ l. format.dropped) (ignored_line (drop at s))) read.Cut
  dropped_cut e = record { is = rw (← h.is, e) }

  pub dropped_got : (end next : ℕ) → r ≡ line.Got end next → FieldRead s at (mapped (λ l. format.dropped) (ignored_line (drop at s))) (read.Got field.Dropped next)
  dropped_got end next e =
      let w = line_places h e in
      record { is = record { the = format.dropped; is = rw (← h.is, e); one = refl; ahead = omega arith; within = omega arith } }

pub ruleset dropping = (dropped_no, dropped_cut, dropped_got)

-- ---- all of them

pub field_tried :
    (s : List ℕ) (at : ℕ) (r : FieldAt) → FieldRead s at (or_else (format.entry (bytes "DEFINITION") (drop at s)) (from_accession (drop at s))) r →
    FieldRead s at (header_field (drop at s)) r
field_tried s at r h = rw (all_tried (drop at s)) h
