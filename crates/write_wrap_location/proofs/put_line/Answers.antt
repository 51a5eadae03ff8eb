-- `write_wrap_location::put_line` meets its contract. Assumes nothing.
use Rattle.base_pen.specs.Pen.{writes_append}
use Rattle.write_wrap_location.proofs.put_line.Goals as goal

pub returns : goal.returns
returns c = writes_append (writes_append c.put_all-a.ensures c.put-b.ensures) c.put_spaces.ensures
