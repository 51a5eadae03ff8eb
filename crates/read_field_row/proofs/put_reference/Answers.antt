-- `read_field_row::put_reference` meets its contract. Assumes nothing.
use Rattle.read_field_row.specs.Putting.{puts_append}
use Rattle.read_field_row.proofs.put_reference.Goals as goal

pub returns : goal.returns
returns c = puts_append c.put_front-middle.ensures c.put_back.ensures
