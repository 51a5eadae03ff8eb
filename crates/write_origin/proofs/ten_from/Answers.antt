-- `write_origin::ten_from` meets its contract.
use Rattle.write_origin.specs.Whole.{ten_is}
use Rattle.write_origin.proofs.ten_from.Goals as goal

pub returns : goal.returns
returns c = ten_is _ _ c.requires
