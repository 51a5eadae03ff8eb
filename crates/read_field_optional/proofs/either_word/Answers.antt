-- `read_field_optional::either_word` meets its contract. Assumes nothing.
use Rattle.std.proofs.Common.{rules}
use Rattle.read_field_optional.proofs.Choosing.{choosing}
use Rattle.read_field_optional.proofs.either_word.Goals as goal

pub returns-in-Got : goal.returns-in-Got
returns-in-Got c = search (choosing, rules)

pub returns-in-Cut : goal.returns-in-Cut
returns-in-Cut c = search (choosing, rules)

pub returns-in-No : goal.returns-in-No
returns-in-No c = search (choosing, rules)
