-- `read_trouble::middle_ends` meets its contract. Assumes nothing.
use Rattle.std.proofs.Common.{rules}
use Rattle.read_trouble.proofs.Ends.{middling}
use Rattle.read_trouble.proofs.middle_ends.Goals as goal

pub middle_at-requires : goal.middle_at-requires
middle_at-requires c = search (middling, rules)

pub returns-in-Got : goal.returns-in-Got
returns-in-Got c = search (middling, rules)

pub returns-in-Cut : goal.returns-in-Cut
returns-in-Cut c = search (middling, rules)

pub returns-in-Deep : goal.returns-in-Deep
returns-in-Deep c = search (middling, rules)
