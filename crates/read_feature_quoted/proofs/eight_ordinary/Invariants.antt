-- `read_feature_quoted::eight_ordinary` meets its contract. Assumes nothing.
use Rattle.std.proofs.Common.{◌-◌, ◌≤◌}
use Rattle.read_feature_quoted.specs.Escapes.{Onward}
use Rattle.read_feature_quoted.proofs.eight_ordinary.Given as goal

abbrev pub invariant-loop-j : goal.invariant-loop-j
invariant-loop-j l = (l.j ≤ 8) × Onward l.s l.at l.j l.ok

abbrev pub decreases-loop-j : goal.decreases-loop-j
decreases-loop-j l = 8 - l.j
