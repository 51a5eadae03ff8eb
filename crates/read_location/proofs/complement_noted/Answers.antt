-- `read_location::complement_noted` meets its contract. Assumes nothing.
use Rattle.std.proofs.Common.{rules}
use Rattle.read_location.proofs.Ending.{usually}
use Rattle.read_location.proofs.complement_noted.Goals as goal

pub returns : goal.returns
returns c = search (usually, rules)
