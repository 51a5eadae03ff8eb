-- `read_field_row::put_always` meets its contract. Assumes nothing.
use Rattle.read_field_row.specs.Putting.{puts_always}
use Rattle.read_field_row.proofs.put_always.Goals as goal

pub returns : goal.returns
returns c = puts_always _ _ _ _ _ _ _ _ c.put_text.ensures c.requires.0.sized
