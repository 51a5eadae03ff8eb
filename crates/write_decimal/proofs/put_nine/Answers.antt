-- `write_decimal::put_nine` meets its contract. Assumes nothing.
use Rattle.base_pen.specs.Pen.{writes_append, writes_as}
use Rattle.write_decimal.proofs.put_nine.Goals as goal

pub returns : goal.returns
returns c = writes_as (rw (c.saturating_sub.ensures, c.width.ensures.value)) (writes_append c.put_spaces-p.ensures c.put_decimal.ensures)
