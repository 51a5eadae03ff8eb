-- `read_trouble::count_ends` meets its contract. Assumes nothing.
use Rattle.std.proofs.Common.{rules}
use Rattle.read_trouble.proofs.Ends.{counting}
use Rattle.read_trouble.proofs.count_ends.Goals as goal

pub may_field_at-requires : goal.may_field_at-requires
may_field_at-requires c = search (counting, rules)

pub returns-in-Got : goal.returns-in-Got
returns-in-Got c = search (counting, rules)

pub returns-in-Cut : goal.returns-in-Cut
returns-in-Cut c = search (counting, rules)
