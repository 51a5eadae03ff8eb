-- `read_location_row::put_row` meets its contract. Assumes nothing.
use Rattle.std.proofs.Common.{rules}
use Rattle.read_location_row.specs.Rows.{past_none_put}
use Rattle.read_location_row.proofs.put_row.Goals as goal

pub returns-then-out-at : goal.returns-then-out-at
returns-then-out-at c = search (past_none_put, rules)
