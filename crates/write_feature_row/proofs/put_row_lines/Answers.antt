-- The row's numbers are those of the struct.
use Rattle.write_feature_row.proofs.put_row_lines.Goals as goal

pub put_feature_lines-requires : goal.put_feature_lines-requires
put_feature_lines-requires c = rw c.row_numbers-flat.ensures c.requires

pub returns : goal.returns
returns c = rw c.row_numbers-flat.ensures at c.put_feature_lines.ensures
