-- The row's numbers are those of the struct.
use Rattle.write_feature_row.proofs.row_next.Goals as goal

pub returns : goal.returns
returns c = rw c.row_numbers-flat.ensures at c.feature_next.ensures
