-- `read_field_optional::source_at` meets its contract. Assumes nothing.
use Rattle.std.proofs.Common.{rules}
use Rattle.read_field_optional.specs.Knowing.{known_entry}
use Rattle.read_field_optional.proofs.Choosing.{sourcing}
use Rattle.read_field_optional.proofs.source_at.Goals as goal

pub may_field_at-requires : goal.may_field_at-requires
may_field_at-requires c = let w = known_entry c.field_at.ensures c.in-Got.is in (w.within, search rules, search rules)

pub returns-in-No : goal.returns-in-No
returns-in-No c = search (sourcing, rules)

pub returns-in-Cut : goal.returns-in-Cut
returns-in-Cut c = search (sourcing, rules)

pub returns-in-Cut-may_field_at : goal.returns-in-Cut-may_field_at
returns-in-Cut-may_field_at c = search (sourcing, rules)

pub returns-in-Got-may_field_at : goal.returns-in-Got-may_field_at
returns-in-Got-may_field_at c = search (sourcing, rules)
