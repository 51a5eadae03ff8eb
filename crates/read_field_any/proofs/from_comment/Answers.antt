-- `read_field_any::from_comment` meets its contract. Assumes nothing.
use Rattle.std.proofs.Common.{rules}
use Rattle.read_field_any.specs.Tries.{from_comment}
use Rattle.read_field_any.proofs.Laws.{entering, dropping}
use Rattle.read_field_any.proofs.from_comment.Goals as goal

pub returns-in-Cut : goal.returns-in-Cut
unfolding from_comment
returns-in-Cut c = search (entering, dropping, rules)

pub returns-in-Got : goal.returns-in-Got
unfolding from_comment
returns-in-Got c = search (entering, dropping, rules)

pub returns-in-No-dropped_at : goal.returns-in-No-dropped_at
unfolding from_comment
returns-in-No-dropped_at c = search (entering, dropping, rules)

pub returns-in-Cut-dropped_at : goal.returns-in-Cut-dropped_at
unfolding from_comment
returns-in-Cut-dropped_at c = search (entering, dropping, rules)

pub returns-in-Got-dropped_at : goal.returns-in-Got-dropped_at
unfolding from_comment
returns-in-Got-dropped_at c = search (entering, dropping, rules)
