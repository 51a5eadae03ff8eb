-- `read_trouble::sections_end` meets its contract. Assumes nothing.
use Rattle.std.proofs.Common.{rules}
use Rattle.read_trouble.proofs.Ends.{sectioning}
use Rattle.read_trouble.proofs.sections_end.Goals as goal

pub middle_ends-next-requires : goal.middle_ends-next-requires
middle_ends-next-requires c = search (sectioning, rules)

pub origin_ends-requires : goal.origin_ends-requires
origin_ends-requires c = search (sectioning, rules)

pub returns : goal.returns
returns c = search (sectioning, rules)
