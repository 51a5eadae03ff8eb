-- `read_record_head::put_three` meets its contract. Assumes nothing.
use Rattle.base_pen.specs.Pen.{writes_append}
use Rattle.read_record_head.proofs.put_three.Goals as goal

pub returns : goal.returns
returns c = writes_append (writes_append c.put_span-a.ensures c.put_text-b.ensures) c.put_span.ensures
