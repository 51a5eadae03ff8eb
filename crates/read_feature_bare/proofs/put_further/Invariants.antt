-- `read_feature_bare::put_further` meets its contract. Assumes nothing.
use Rattle.std.proofs.Common.{◌-◌, length}
use Rattle.read_feature_bare.proofs.Bares.{Putting}
use Rattle.read_feature_bare.proofs.put_further.Given as goal

abbrev pub invariant-loop-from : goal.invariant-loop-from
invariant-loop-from l = Putting l.s l.at l.indent l.initial.room l.place l.i l.room l.p

abbrev pub decreases-loop-from : goal.decreases-loop-from
decreases-loop-from l = length l.s - l.i
