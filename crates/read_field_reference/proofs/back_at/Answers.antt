-- `read_field_reference::back_at` meets its contract. Assumes nothing.
use Rattle.std.proofs.Common.{rules}
use Rattle.read_field_reference.proofs.Laws.{known_pair, known_end, backing}
use Rattle.read_field_reference.proofs.back_at.Goals as goal

pub end_at-requires : goal.end_at-requires
end_at-requires c = (known_pair c.pair_at.ensures c.in-Got.is).within

pub overflow_add-result : goal.overflow_add-result
overflow_add-result c =
    let w = known_pair c.pair_at.ensures c.in-Got.is in let v = known_end c.end_at.ensures c.in-Got-end_at.is in search rules

pub returns-in-No : goal.returns-in-No
returns-in-No c = search (backing, rules)

pub returns-in-Cut : goal.returns-in-Cut
returns-in-Cut c = search (backing, rules)

pub returns-in-Cut-end_at : goal.returns-in-Cut-end_at
returns-in-Cut-end_at c = search (backing, rules)

pub returns-in-Got-end_at : goal.returns-in-Got-end_at
returns-in-Got-end_at c = search (backing, rules)
