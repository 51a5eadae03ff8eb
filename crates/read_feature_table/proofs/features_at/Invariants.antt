-- `read_feature_table::features_at` meets its contract: what was counted and what is still to come are the whole.
use Rattle.std.proofs.Common.{◌-◌, length}
use Rattle.read_feature_table.proofs.Laws.{Counted}
use Rattle.read_feature_table.proofs.features_at.Given as goal

abbrev pub invariant-loop-qualifiers : goal.invariant-loop-qualifiers
invariant-loop-qualifiers l = Counted l.s l.at l.i l.count l.all l.parts l.total

abbrev pub decreases-loop-qualifiers : goal.decreases-loop-qualifiers
decreases-loop-qualifiers l = length l.s - l.i
