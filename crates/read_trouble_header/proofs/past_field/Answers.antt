-- `past_field`: after the field, or where none stands.
use Rattle.std.proofs.Common.{rules}
use Rattle.read_trouble_header.proofs.Laws.{fields}
use Rattle.read_trouble_header.proofs.past_field.Goals as goal

pub returns-in-Got : goal.returns-in-Got
returns-in-Got c = search (fields, rules)

pub returns-in-No : goal.returns-in-No
returns-in-No c = search (fields, rules)

pub returns-in-Cut : goal.returns-in-Cut
returns-in-Cut c = search (fields, rules)
