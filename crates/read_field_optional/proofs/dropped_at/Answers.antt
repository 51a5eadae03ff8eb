-- `read_field_optional::dropped_at` meets its contract. Assumes nothing.
use Rattle.std.proofs.Common.{rules}
use Rattle.read_field_optional.proofs.Choosing.{dropping}
use Rattle.read_field_optional.proofs.dropped_at.Goals as goal

pub returns-in-Got : goal.returns-in-Got
returns-in-Got c = search (dropping, rules)

pub returns-in-Cut : goal.returns-in-Cut
returns-in-Cut c = search (dropping, rules)

pub returns-in-No : goal.returns-in-No
returns-in-No c = search (dropping, rules)
