-- What is noted of a header: each entry that counts so far, and what one more field makes of that.
use Rattle.std.specs.Prelude.{ℕ, ◌+◌, ◌<◌, ◌^◌, Bool, true, false, eqb}
use Rattle.spec_format.specs.Bytes.{pick}
use Rattle.read_field_entry.specs.declared.Entry.{Entry}
use Rattle.read_field_optional.specs.declared.MayEntry.{MayEntry}
use Rattle.read_field_optional.specs.declared.MayEntry.TheVariants as may
use Rattle.read_field_any.specs.declared.Field.{Field}
use Rattle.read_field_any.specs.declared.Field.TheVariants as field
use Rattle.read_field_all.specs.declared.Amount.{Amount}
use Rattle.read_field_all.specs.declared.MaySource.{MaySource}
use Rattle.read_field_all.specs.declared.MaySource.TheVariants as source
use Rattle.read_field_all.specs.declared.Header.{Header}

abbrev pub chosen : Bool → Entry → MayEntry
chosen b e = pick b (may.Is e) may.Absent

-- the entry, if its word has number n
abbrev pub entry_in : ℕ → Field → MayEntry
entry_in n (field.Definition e) = chosen (eqb n 0) e
entry_in n (field.Accession e) = chosen (eqb n 1) e
entry_in n (field.Version e) = chosen (eqb n 2) e
entry_in n (field.Dblink e) = chosen (eqb n 3) e
entry_in n (field.Keywords e) = chosen (eqb n 4) e
entry_in n (field.Source text organism) = may.Absent
entry_in n (field.Reference entries size) = may.Absent
entry_in n (field.Comment e) = chosen (eqb n 5) e
entry_in n field.Dropped = may.Absent

abbrev pub later : MayEntry → MayEntry → MayEntry
later old may.Absent = old
later old (may.Is e) = may.Is e

abbrev pub later_source : MaySource → Field → MaySource
later_source old (field.Definition e) = old
later_source old (field.Accession e) = old
later_source old (field.Version e) = old
later_source old (field.Dblink e) = old
later_source old (field.Keywords e) = old
later_source old (field.Source text organism) = source.Is text organism
later_source old (field.Reference entries size) = old
later_source old (field.Comment e) = old
later_source old field.Dropped = old

abbrev pub twice_by : Bool → MayEntry → MayEntry → Bool
twice_by twice old may.Absent = twice
twice_by twice may.Absent (may.Is e) = false
twice_by twice (may.Is d) (may.Is e) = true

abbrev pub none : Amount
none = record { count = 0; bytes = 0 }

abbrev pub entry_amount : MayEntry → Amount
entry_amount may.Absent = none
entry_amount (may.Is e) = record { count = 1; bytes = e.length }

abbrev pub reference_amount : Field → Amount
reference_amount (field.Definition e) = none
reference_amount (field.Accession e) = none
reference_amount (field.Version e) = none
reference_amount (field.Dblink e) = none
reference_amount (field.Keywords e) = none
reference_amount (field.Source text organism) = none
reference_amount (field.Reference entries size) = record { count = 1; bytes = size }
reference_amount (field.Comment e) = none
reference_amount field.Dropped = none

-- of no field yet
abbrev pub unseen : ℕ → Header
unseen at =
    record {
      definition = may.Absent;
      accession = may.Absent;
      version = may.Absent;
      dblink = may.Absent;
      keywords = may.Absent;
      source = source.Absent;
      twice = false;
      references = 0;
      reference_bytes = 0;
      comments = 0;
      comment_bytes = 0;
      next = at;
    }

-- with one more field, which ends before `next`
unfoldable pub noting : Header → Field → ℕ → Header
noting h f next =
    record {
      definition = later h.definition (entry_in 0 f);
      accession = later h.accession (entry_in 1 f);
      version = later h.version (entry_in 2 f);
      dblink = later h.dblink (entry_in 3 f);
      keywords = later h.keywords (entry_in 4 f);
      source = later_source h.source f;
      twice = twice_by h.twice h.definition (entry_in 0 f);
      references = h.references + (reference_amount f).count;
      reference_bytes = h.reference_bytes + (reference_amount f).bytes;
      comments = h.comments + (entry_amount (entry_in 5 f)).count;
      comment_bytes = h.comment_bytes + (entry_amount (entry_in 5 f)).bytes;
      next = next;
    }

-- the sums are ones that a usize can hold
pub record Fitting (h : Header) (f : Field) : Type 0 where
  pub references : h.references + (reference_amount f).count < 2 ^ 64
  pub reference_bytes : h.reference_bytes + (reference_amount f).bytes < 2 ^ 64
  pub comments : h.comments + (entry_amount (entry_in 5 f)).count < 2 ^ 64
  pub comment_bytes : h.comment_bytes + (entry_amount (entry_in 5 f)).bytes < 2 ^ 64
