-- `all_rows`: the plan's numbers, put together.
use Rattle.read_record_prepared.proofs.all_rows.Goals as goal

pub returns : goal.returns
returns c = rw c.head_in.ensures
