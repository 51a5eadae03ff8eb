-- `scan_location_usual::digits_on` meets its contract. Assumes nothing.
use Rattle.std.proofs.Common.{◌-◌, length}
use Rattle.scan_location_usual.specs.Usuals.{DigitsTo}
use Rattle.scan_location_usual.proofs.Numbers.{to}
use Rattle.scan_location_usual.proofs.digits_on.Given as goal

abbrev pub invariant-loop-i : goal.invariant-loop-i
invariant-loop-i l = DigitsTo l.s l.at l.first (to l.v l.i)

abbrev pub decreases-loop-i : goal.decreases-loop-i
decreases-loop-i l = length l.s - l.i
