-- `empty_lines`: the loop has passed empty lines only, and stops at the first line that is not.
use Rattle.std.proofs.Common.{◌-◌, ◌≤◌, ◌≡◌, length, drop}
use Rattle.read_slashes.proofs.Laws.{empty_end}
use Rattle.read_slashes.proofs.empty_lines.Given as goal

abbrev pub invariant-loop-next : goal.invariant-loop-next
invariant-loop-next l = (l.at ≤ l.i) × (l.i ≤ length l.s) × (empty_end (drop l.at l.s) ≡ empty_end (drop l.i l.s))

abbrev pub decreases-loop-next : goal.decreases-loop-next
decreases-loop-next l = length l.s - l.i
