-- `api_head::put_three` meets its contract.
use Rattle.base_pen.specs.Pen.{writes_append}
use Rattle.api_head.proofs.put_three.Goals as goal

pub returns : goal.returns
returns c = writes_append c.put_all-next.ensures c.put.ensures
