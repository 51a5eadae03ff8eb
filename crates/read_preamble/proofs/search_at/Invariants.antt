-- `search_at`: the loop has passed lines only that the search passes, and stops where the search does.
use Rattle.std.proofs.Common.{◌-◌, ◌≤◌, ◌≡◌, length, drop}
use Rattle.spec_lines.specs.Troubles.{searched}
use Rattle.read_preamble.proofs.search_at.Given as goal

abbrev pub invariant-loop-next : goal.invariant-loop-next
invariant-loop-next l = (l.at ≤ l.i) × (l.i ≤ length l.s) × (searched (drop l.at l.s) ≡ searched (drop l.i l.s))

abbrev pub decreases-loop-next : goal.decreases-loop-next
decreases-loop-next l = length l.s - l.i
