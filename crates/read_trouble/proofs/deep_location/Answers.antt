-- `read_trouble::deep_location` meets its contract. Assumes nothing.
use Rattle.std.proofs.Common.{rules}
use Rattle.read_trouble.proofs.Told.{heading}
use Rattle.read_trouble.proofs.deep_location.Goals as goal

pub header_ends-header-requires : goal.header_ends-header-requires
header_ends-header-requires c = search (heading, rules)

pub deep_place-requires : goal.deep_place-requires
deep_place-requires c = search (heading, rules)

pub returns : goal.returns
returns c = search (heading, rules)
