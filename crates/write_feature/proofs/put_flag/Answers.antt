-- `write_feature::put_flag` meets its contract.
use Rattle.base_pen.specs.Pen.{writes_append}
use Rattle.write_feature.proofs.put_flag.Goals as goal

pub returns : goal.returns
returns c = writes_append c.put_key-next.ensures c.put.ensures
