-- `read_origin::origin_at` meets its contract. Assumes nothing.
use Rattle.std.proofs.Common.{rules}
use Rattle.spec_format.specs.Origin.{origin_tag}
use Rattle.read_origin.proofs.Laws.{tagging}
use Rattle.read_origin.proofs.origin_at.Goals as goal

pub origin_rest-requires : goal.origin_rest-requires
origin_rest-requires c = search (tagging, rules)

pub returns-in-Got : goal.returns-in-Got
unfolding origin_tag
returns-in-Got c = search (tagging, rules)

pub returns-in-No : goal.returns-in-No
unfolding origin_tag
returns-in-No c = search (tagging, rules)

pub returns-in-Cut : goal.returns-in-Cut
unfolding origin_tag
returns-in-Cut c = search (tagging, rules)
