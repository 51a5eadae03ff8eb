-- `read_feature_quoted::put_on` meets its contract. Assumes nothing.
use Rattle.std.proofs.Common.{◌-◌, length}
use Rattle.read_feature_quoted.proofs.Values.{Putting}
use Rattle.read_feature_quoted.proofs.put_on.Given as goal

abbrev pub invariant-loop-to : goal.invariant-loop-to
invariant-loop-to l = Putting l.s l.at l.joined l.indent l.initial.room l.place l.i l.room l.p

abbrev pub decreases-loop-to : goal.decreases-loop-to
decreases-loop-to l = length l.s - l.i
