-- By whether the writer keeps.
use Rattle.write_feature_row.proofs.row_kept.Goals as goal

pub returns-then-keeping : goal.returns-then-keeping
returns-then-keeping c = rw c.if-keeping.true c.row_passes.ensures
