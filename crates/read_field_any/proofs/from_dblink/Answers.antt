-- `read_field_any::from_dblink` meets its contract. Assumes nothing.
use Rattle.std.proofs.Common.{rules}
use Rattle.read_field_any.specs.Tries.{from_dblink}
use Rattle.read_field_any.proofs.Laws.{entering}
use Rattle.read_field_any.proofs.from_dblink.Goals as goal

pub returns-in-Cut : goal.returns-in-Cut
unfolding from_dblink
returns-in-Cut c = search (entering, rules)

pub returns-in-Got : goal.returns-in-Got
unfolding from_dblink
returns-in-Got c = search (entering, rules)

pub returns-in-Cut-field_at : goal.returns-in-Cut-field_at
unfolding from_dblink
returns-in-Cut-field_at c = search (entering, rules)

pub returns-in-Got-field_at : goal.returns-in-Got-field_at
unfolding from_dblink
returns-in-Got-field_at c = search (entering, rules)

pub returns-in-No-field_at : goal.returns-in-No-field_at
unfolding from_dblink
returns-in-No-field_at c = search (entering, rules)
