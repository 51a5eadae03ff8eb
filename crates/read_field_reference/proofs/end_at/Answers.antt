-- `read_field_reference::end_at` meets its contract. Assumes nothing.
use Rattle.std.proofs.Common.{rules}
use Rattle.read_field_optional.specs.Knowing.{known_may}
use Rattle.read_field_reference.proofs.Laws.{ending}
use Rattle.read_field_reference.proofs.end_at.Goals as goal

pub may_field_at-requires-in-Got : goal.may_field_at-requires-in-Got
may_field_at-requires-in-Got c = let w = known_may c.may_field_at.ensures c.in-Got.is in (w.within, search rules, search rules)

pub overflow_add-result : goal.overflow_add-result
overflow_add-result c =
    let w = known_may c.may_field_at.ensures c.in-Got.is in
    let v = known_may c.may_field_at-in-Got.ensures c.in-Got-may_field_at.is in
    let n = c.may_length.ensures in
    let i = c.may_length-in-Got-may_field_at.ensures in
    search rules

pub returns-in-Cut : goal.returns-in-Cut
returns-in-Cut c = search (ending, rules)

pub returns-in-Cut-may_field_at : goal.returns-in-Cut-may_field_at
returns-in-Cut-may_field_at c = search (ending, rules)

pub returns-in-Got-may_field_at : goal.returns-in-Got-may_field_at
returns-in-Got-may_field_at c = search (ending, rules)
