-- `read_field_entry::further_lines` meets its contract. Assumes nothing.
use Rattle.std.proofs.Common.{◌+◌, ◌-◌, ◌≤◌, length, drop}
use Rattle.read_field_entry.specs.Texts.{further}
use Rattle.read_field_entry.proofs.Turns.{Reading}
use Rattle.read_field_entry.proofs.further_lines.Given as goal

abbrev pub invariant-loop-from : goal.invariant-loop-from
invariant-loop-from l = (l.at ≤ l.i) × (l.i ≤ length l.s) × (l.size + l.at ≤ l.front + l.i) × Reading (further l.columns l.keep (drop l.at l.s)) (further l.columns l.keep (drop l.i l.s)) l.initial.state l.state l.front l.size

abbrev pub decreases-loop-from : goal.decreases-loop-from
decreases-loop-from l = length l.s - l.i
