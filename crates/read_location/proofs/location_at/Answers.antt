-- `read_location::location_at` meets its contract. Assumes nothing.
use Rattle.std.proofs.Common.{rules}
use Rattle.read_location.proofs.Ending.{entering}
use Rattle.read_location.proofs.location_at.Goals as goal

pub ended-requires : goal.ended-requires
ended-requires c = search (entering, rules)

pub returns : goal.returns
returns c = search (entering, rules)
