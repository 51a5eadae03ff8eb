-- `scan_bytes::sixteen_spaces` meets its contract. Assumes nothing.
use Rattle.std.proofs.Common.{◌-◌, ◌≤◌}
use Rattle.scan_bytes.specs.Places.{Spaced}
use Rattle.scan_bytes.proofs.sixteen_spaces.Given as goal

abbrev pub invariant-loop-j : goal.invariant-loop-j
invariant-loop-j l = (l.j ≤ 16) × Spaced l.s l.at l.j l.ok

abbrev pub decreases-loop-j : goal.decreases-loop-j
decreases-loop-j l = 16 - l.j
