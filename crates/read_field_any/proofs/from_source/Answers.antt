-- `read_field_any::from_source` meets its contract. Assumes nothing.
use Rattle.std.proofs.Common.{rules}
use Rattle.read_field_any.specs.Tries.{from_source}
use Rattle.read_field_any.proofs.Laws.{nesting}
use Rattle.read_field_any.proofs.from_source.Goals as goal

pub returns-in-Cut : goal.returns-in-Cut
unfolding from_source
returns-in-Cut c = search (nesting, rules)

pub returns-in-Got : goal.returns-in-Got
unfolding from_source
returns-in-Got c = search (nesting, rules)

pub returns-in-Cut-reference_at : goal.returns-in-Cut-reference_at
unfolding from_source
returns-in-Cut-reference_at c = search (nesting, rules)

pub returns-in-Got-reference_at : goal.returns-in-Got-reference_at
unfolding from_source
returns-in-Got-reference_at c = search (nesting, rules)

pub returns-in-No-reference_at : goal.returns-in-No-reference_at
unfolding from_source
returns-in-No-reference_at c = search (nesting, rules)
