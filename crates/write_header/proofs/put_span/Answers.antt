-- The part of the store.
use Rattle.write_header.specs.Rows.{part_is}
use Rattle.write_header.proofs.put_span.Goals as goal

pub returns : goal.returns
returns c = simp part_is at c.put_field.ensures
