-- `read_location::any_plain_in` meets its contract. Assumes nothing.
use Rattle.std.proofs.Common.{rules}
use Rattle.read_location.proofs.Cycle.{plainly}
use Rattle.read_location.proofs.any_plain_in.Goals as goal

pub returns-in-Row : goal.returns-in-Row
returns-in-Row c = search (plainly, rules)

pub returns-in-Fault : goal.returns-in-Fault
returns-in-Fault c = search (plainly, rules)
