-- `read_trouble::sections` meets its contract. Assumes nothing.
use Rattle.std.proofs.Common.{rules}
use Rattle.read_trouble.proofs.Told.{heading}
use Rattle.read_trouble.proofs.sections.Goals as goal

pub header_ends-header-requires : goal.header_ends-header-requires
header_ends-header-requires c = search (heading, rules)

pub sections_end-requires : goal.sections_end-requires
sections_end-requires c = search (heading, rules)

pub returns : goal.returns
returns c = search (heading, rules)
