-- `read_origin::origin_rest` meets its contract. Assumes nothing.
use Rattle.std.proofs.Common.{rules}
use Rattle.read_origin.proofs.Laws.{tagging}
use Rattle.read_origin.proofs.origin_rest.Goals as goal

pub returns-in-Got : goal.returns-in-Got
returns-in-Got c = search (tagging, rules)

pub returns-in-Cut : goal.returns-in-Cut
returns-in-Cut c = search (tagging, rules)

pub returns-in-No : goal.returns-in-No
returns-in-No c = search (tagging, rules)
