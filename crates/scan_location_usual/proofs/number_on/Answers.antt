-- `scan_location_usual::number_on` meets its contract. Assumes nothing.
use Rattle.std.proofs.Common.{rules}
use Rattle.scan_location_usual.proofs.Numbers.{numbering}
use Rattle.scan_location_usual.proofs.number_on.Goals as goal

pub value_of-requires : goal.value_of-requires
value_of-requires c = search (numbering, rules)

pub digits_on-requires : goal.digits_on-requires
digits_on-requires c = search (numbering, rules)

pub returns-then-is_between : goal.returns-then-is_between
returns-then-is_between c = search (numbering, rules)

pub returns-else-is_between : goal.returns-else-is_between
returns-else-is_between c = search (numbering, rules)

pub returns-else-at-s : goal.returns-else-at-s
returns-else-at-s c = search (numbering, rules)
