-- `read_origin::origin_text` meets its contract. Assumes nothing.
use Rattle.std.proofs.Common.{rules}
use Rattle.read_origin.proofs.Laws.{tagging}
use Rattle.read_origin.proofs.origin_text.Goals as goal

pub origin_line-requires : goal.origin_line-requires
origin_line-requires c = search (tagging, rules)

pub returns-in-Got : goal.returns-in-Got
returns-in-Got c = search (tagging, rules)

pub returns-in-No : goal.returns-in-No
returns-in-No c = search (tagging, rules)

pub returns-in-Cut : goal.returns-in-Cut
returns-in-Cut c = search (tagging, rules)
