-- `read_location::plain_in` meets its contract. Assumes nothing.
use Rattle.std.proofs.Common.{rules}
use Rattle.read_location.proofs.Cycle.{range_row_lem}
use Rattle.read_location.proofs.plain_in.Goals as goal

pub returns-in-Is : goal.returns-in-Is
returns-in-Is c = search (range_row_lem, rules)
