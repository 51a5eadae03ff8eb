-- `read_trouble::second_definition` meets its contract. Assumes nothing.
use Rattle.std.proofs.Common.{rules}
use Rattle.read_trouble.proofs.Told.{heading}
use Rattle.read_trouble.proofs.second_definition.Goals as goal

pub header_begins-header-requires : goal.header_begins-header-requires
header_begins-header-requires c = search (heading, rules)

pub second_definition-requires : goal.second_definition-requires
second_definition-requires c = search (heading, rules)

pub returns : goal.returns
returns c = search (heading, rules)
