-- `scan_bytes::eight_inside` meets its contract. Assumes nothing.
use Rattle.std.proofs.Common.{◌-◌, ◌≤◌}
use Rattle.scan_bytes.specs.Places.{Passes, line_stop}
use Rattle.scan_bytes.proofs.eight_inside.Given as goal

abbrev pub invariant-loop-j : goal.invariant-loop-j
invariant-loop-j l = (l.j ≤ 8) × Passes line_stop l.s l.at l.j l.ok

abbrev pub decreases-loop-j : goal.decreases-loop-j
decreases-loop-j l = 8 - l.j
