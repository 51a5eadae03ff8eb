-- The features up to the row that was reached are put: what was put and what is still to be put are the whole.
use Rattle.std.proofs.Common.{◌-◌}
use Rattle.read_feature_rows.proofs.Laws.{Storing}
use Rattle.read_feature_rows.proofs.store_rows.Given as goal

abbrev pub invariant-loop-reached : goal.invariant-loop-reached
invariant-loop-reached l =
    Storing l.s l.at l.n l.place l.initial.texts l.initial.rows l.initial.qualifiers l.initial.locations l.texts l.rows l.qualifiers l.locations l.reached

abbrev pub decreases-loop-reached : goal.decreases-loop-reached
decreases-loop-reached l = l.n - l.reached.row
