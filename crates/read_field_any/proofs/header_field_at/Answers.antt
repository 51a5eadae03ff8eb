-- `read_field_any::header_field_at` meets its contract. Assumes nothing.
use Rattle.std.proofs.Common.{rules}
use Rattle.read_field_any.proofs.Laws.{entering, field_tried}
use Rattle.read_field_any.proofs.header_field_at.Goals as goal

pub returns-in-Cut : goal.returns-in-Cut
returns-in-Cut c = search (entering, field_tried, rules)

pub returns-in-Got : goal.returns-in-Got
returns-in-Got c = search (entering, field_tried, rules)

pub returns-in-No : goal.returns-in-No
returns-in-No c = search (entering, field_tried, rules)
