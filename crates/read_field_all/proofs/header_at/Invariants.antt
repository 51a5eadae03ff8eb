-- `read_field_all::header_at` meets its contract. Assumes nothing.
use Rattle.std.proofs.Common.{◌-◌, length}
use Rattle.read_field_all.proofs.Gathering.{Gathering}
use Rattle.read_field_all.proofs.header_at.Given as goal

abbrev pub invariant-loop-seen : goal.invariant-loop-seen
invariant-loop-seen l = Gathering l.s l.at l.seen

abbrev pub decreases-loop-seen : goal.decreases-loop-seen
decreases-loop-seen l = length l.s - l.seen.next
