-- `read_feature_qualifiers::qualifiers_at` meets its contract: what was counted and what is still to come are the whole.
use Rattle.std.proofs.Common.{◌-◌, length}
use Rattle.read_feature_qualifiers.proofs.Laws.{Counted}
use Rattle.read_feature_qualifiers.proofs.qualifiers_at.Given as goal

abbrev pub invariant-loop-more : goal.invariant-loop-more
invariant-loop-more l = Counted l.s l.at l.indent l.i l.count l.bytes

abbrev pub decreases-loop-more : goal.decreases-loop-more
decreases-loop-more l = length l.s - l.i
