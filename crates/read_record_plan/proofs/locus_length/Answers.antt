-- `read_record_plan::locus_length` meets its contract. Assumes nothing.
use Rattle.read_record_plan.proofs.locus_length.Goals as goal

pub returns-in-Known : goal.returns-in-Known
returns-in-Known c = rw c.in-Known.is
