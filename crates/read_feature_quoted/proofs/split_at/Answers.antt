-- `read_feature_quoted::split_at` meets its contract. Assumes nothing.
use Rattle.std.proofs.Common.{rules}
use Rattle.read_feature_quoted.proofs.Steps.{splits}
use Rattle.read_feature_quoted.proofs.split_at.Goals as goal

pub second_quote-requires : goal.second_quote-requires
second_quote-requires c = search (splits, rules)

pub returns-in-Got : goal.returns-in-Got
returns-in-Got c = search (splits, rules)

pub returns-in-No : goal.returns-in-No
returns-in-No c = search (splits, rules)

pub returns-in-Cut : goal.returns-in-Cut
returns-in-Cut c = search (splits, rules)
