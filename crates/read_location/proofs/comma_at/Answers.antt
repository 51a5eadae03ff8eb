-- `read_location::comma_at` meets its contract. Assumes nothing.
use Rattle.std.proofs.Common.{rules}
use Rattle.read_location.proofs.Cycle.{comma_some}
use Rattle.read_location.proofs.comma_at.Goals as goal

pub returns : goal.returns
returns c = search (comma_some, rules)
