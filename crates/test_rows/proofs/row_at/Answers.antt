-- The eight numbers from a place on.
use Rattle.test_rows.specs.Flats.{eight_at}
use Rattle.test_rows.proofs.row_at.Goals as goal

pub returns : goal.returns
returns c = eight_at _ _ c.requires
