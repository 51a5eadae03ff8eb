-- `read_feature_location::deep_feature_at` meets its contract. Assumes nothing.
use Rattle.std.proofs.Common.{rules}
use Rattle.read_feature_location.proofs.Laws.{heads}
use Rattle.read_feature_location.proofs.deep_feature_at.Goals as goal

pub overflow_sub-next : goal.overflow_sub-next
overflow_sub-next c = search (heads, rules)

pub too_deep-requires : goal.too_deep-requires
too_deep-requires c = search (heads, rules)

pub returns-in-Got : goal.returns-in-Got
returns-in-Got c = search (heads, rules)

pub returns-in-No : goal.returns-in-No
returns-in-No c = search (heads, rules)

pub returns-in-Cut : goal.returns-in-Cut
returns-in-Cut c = search (heads, rules)
