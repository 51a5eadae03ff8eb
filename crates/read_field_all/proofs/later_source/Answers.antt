-- `read_field_all::later_source` meets its contract. Assumes nothing.
use Rattle.read_field_all.proofs.later_source.Goals as goal

pub returns-in-Source : goal.returns-in-Source
returns-in-Source c = rw c.in-Source.is
