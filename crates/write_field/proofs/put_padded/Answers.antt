-- `write_field::put_padded` meets its contract.
use Rattle.base_pen.specs.Pen.{writes_append, writes_as}
use Rattle.write_field.proofs.put_padded.Goals as goal

pub returns : goal.returns
returns c = writes_as (rw c.left_of.ensures) (writes_append c.put_all-next.ensures c.put_spaces.ensures)
