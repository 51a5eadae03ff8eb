-- `read_field_optional::may_field_at` meets its contract. Assumes nothing.
use Rattle.std.proofs.Common.{rules}
use Rattle.read_field_optional.proofs.Choosing.{maying}
use Rattle.read_field_optional.proofs.may_field_at.Goals as goal

pub returns-in-Cut : goal.returns-in-Cut
returns-in-Cut c = search (maying, rules)

pub returns-in-No : goal.returns-in-No
returns-in-No c = search (maying, rules)

pub returns-in-Got : goal.returns-in-Got
returns-in-Got c = search (maying, rules)
