-- `read_feature_bare::further_lines` meets its contract. Assumes nothing.
use Rattle.std.proofs.Common.{◌-◌, length}
use Rattle.read_feature_bare.proofs.Lines.{Going}
use Rattle.read_feature_bare.proofs.further_lines.Given as goal

abbrev pub invariant-loop-from : goal.invariant-loop-from
invariant-loop-from l = Going l.s l.at l.indent l.first l.initial.state l.i l.length l.state

abbrev pub decreases-loop-from : goal.decreases-loop-from
decreases-loop-from l = length l.s - l.i
