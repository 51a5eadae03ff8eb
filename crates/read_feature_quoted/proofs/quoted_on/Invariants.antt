-- `read_feature_quoted::quoted_on` meets its contract. Assumes nothing.
use Rattle.std.proofs.Common.{◌-◌, length}
use Rattle.read_feature_quoted.proofs.Values.{Going}
use Rattle.read_feature_quoted.proofs.quoted_on.Given as goal

abbrev pub invariant-loop-to : goal.invariant-loop-to
invariant-loop-to l = Going l.s l.at l.joined l.indent l.i l.length l.state

abbrev pub decreases-loop-to : goal.decreases-loop-to
decreases-loop-to l = length l.s - l.i
