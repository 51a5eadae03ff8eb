-- `read_field_row::put_text` meets its contract. Assumes nothing.
use Rattle.read_field_row.specs.Putting.{texted}
use Rattle.read_field_row.proofs.put_text.Goals as goal

pub returns : goal.returns
returns c = texted _ _ _ _ _ _ _ _ _ c.requires.1 c.put_entry-text.ensures c.put_all-row.ensures
