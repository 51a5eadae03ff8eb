-- `scan_location::digits_at` meets its contract. Assumes nothing.
use Rattle.std.proofs.Common.{◌-◌, length}
use Rattle.scan_location.proofs.Numbers.{Counting}
use Rattle.scan_location.proofs.digits_at.Given as goal

abbrev pub invariant-loop-value : goal.invariant-loop-value
invariant-loop-value l = Counting l.laid l.s l.initial.p l.initial.v l.v l.p

abbrev pub decreases-loop-value : goal.decreases-loop-value
decreases-loop-value l = length l.s - l.p.at
