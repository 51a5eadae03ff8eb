-- `read_field_text::put_further` meets its contract. Assumes nothing.
use Rattle.std.proofs.Common.{◌-◌, ◌≤◌, ◌≡◌, length, drop}
use Rattle.read_field_entry.specs.Texts.{further}
use Rattle.read_field_text.specs.Texts.{text_in}
use Rattle.read_field_text.proofs.Putting.{Putting}
use Rattle.read_field_text.proofs.put_further.Given as goal

abbrev pub invariant-loop-from : goal.invariant-loop-from
invariant-loop-from l =
    (l.at ≤ l.i) × (l.i ≤ length l.s) × (length l.room ≡ length l.initial.room) ×
    Putting l.initial.room l.place (text_in (further l.columns l.keep (drop l.at l.s))) l.room l.p (further l.columns l.keep (drop l.i l.s))

abbrev pub decreases-loop-from : goal.decreases-loop-from
decreases-loop-from l = length l.s - l.i
