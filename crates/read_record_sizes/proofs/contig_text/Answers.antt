-- `contig_text`: one case for each of its entry's.
use Rattle.std.proofs.Common.{◌≡◌, ℕ, rules, Some, None}
use Rattle.read_field_entry.specs.declared.Entry.{Entry}
use Rattle.read_field_optional.specs.declared.MayEntry.{MayEntry}
use Rattle.read_field_optional.specs.declared.MayEntry.TheVariants as may
use Rattle.read_record_sizes.specs.Sizing.{contig_entry}
use Rattle.read_record_sizes.proofs.contig_text.Goals as goal

none : (place : ℕ) (m : MayEntry) (row rows : ℕ) → m ≡ may.Absent → None ≡ contig_entry place m row rows
none place m row rows e = rw e

some : (place : ℕ) (m : MayEntry) (row rows : ℕ) (x : Entry) → m ≡ may.Is x →
    Some (record { text = record { start = place; length = x.length }; row = row; rows = rows }) ≡ contig_entry place m row rows
some place m row rows x e = rw e

ruleset entries = (none, some)

pub returns-in-Absent : goal.returns-in-Absent
returns-in-Absent c = search (entries, rules)

pub returns-in-Is : goal.returns-in-Is
returns-in-Is c = search (entries, rules)
