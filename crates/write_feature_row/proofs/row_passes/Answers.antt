-- The row's numbers are those of the struct.
use Rattle.write_feature_row.proofs.row_passes.Goals as goal

pub feature_passes-requires : goal.feature_passes-requires
feature_passes-requires c = rw c.row_numbers-flat.ensures c.requires

pub returns : goal.returns
returns c = rw c.row_numbers-flat.ensures at c.feature_passes.ensures
