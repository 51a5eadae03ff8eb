-- `scan_utf8::steps` meets its contract. Assumes nothing.
use Rattle.std.proofs.Common.{◌-◌, ◌≤◌}
use Rattle.scan_utf8.specs.States.{Ran}
use Rattle.scan_bytes.specs.Places.{part}
use Rattle.scan_utf8.proofs.steps.Given as goal

abbrev pub invariant-loop-i : goal.invariant-loop-i
invariant-loop-i l = (l.from ≤ l.i) × (l.i ≤ l.to) × Ran l.initial.v (part l.from l.i l.s) l.v

abbrev pub decreases-loop-i : goal.decreases-loop-i
decreases-loop-i l = l.to - l.i
