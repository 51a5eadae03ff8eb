-- `next_definition`: the loop has passed fields only that are no DEFINITION, and stops where the search does.
use Rattle.std.proofs.Common.{◌-◌, ◌≤◌, ◌≡◌, length, drop}
use Rattle.spec_lines.specs.Troubles.{definition}
use Rattle.read_trouble_header.proofs.next_definition.Given as goal

abbrev pub invariant-loop-next : goal.invariant-loop-next
invariant-loop-next l = (l.at ≤ l.i) × (l.i ≤ length l.s) × (definition (drop l.at l.s) ≡ definition (drop l.i l.s))

abbrev pub decreases-loop-next : goal.decreases-loop-next
decreases-loop-next l = length l.s - l.i
