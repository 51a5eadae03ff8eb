-- `read_field_reference::front_at` meets its contract. Assumes nothing.
use Rattle.std.proofs.Common.{rules}
use Rattle.read_field_optional.specs.Knowing.{known_may}
use Rattle.read_field_reference.proofs.Laws.{known_pair, fronting}
use Rattle.read_field_reference.proofs.front_at.Goals as goal

pub may_field_at-requires : goal.may_field_at-requires
may_field_at-requires c = let w = known_pair c.pair_at.ensures c.in-Got.is in (w.within, search rules, search rules)

pub overflow_add-result : goal.overflow_add-result
overflow_add-result c =
    let w = known_pair c.pair_at.ensures c.in-Got.is in
    let v = known_may c.may_field_at.ensures c.in-Got-may_field_at.is in
    let n = c.may_length.ensures in
    search rules

pub returns-in-No : goal.returns-in-No
returns-in-No c = search (fronting, rules)

pub returns-in-Cut : goal.returns-in-Cut
returns-in-Cut c = search (fronting, rules)

pub returns-in-Cut-may_field_at : goal.returns-in-Cut-may_field_at
returns-in-Cut-may_field_at c = search (fronting, rules)

pub returns-in-Got-may_field_at : goal.returns-in-Got-may_field_at
returns-in-Got-may_field_at c = search (fronting, rules)
