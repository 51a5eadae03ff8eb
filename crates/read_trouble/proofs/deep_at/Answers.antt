-- `read_trouble::deep_at` meets its contract. Assumes nothing.
use Rattle.std.proofs.Common.{rules}
use Rattle.read_trouble.proofs.Ends.{deepening}
use Rattle.read_trouble.proofs.deep_at.Goals as goal

pub deep_feature_at-requires : goal.deep_feature_at-requires
deep_feature_at-requires c = search (deepening, rules)

pub returns-then-deep_feature_at : goal.returns-then-deep_feature_at
returns-then-deep_feature_at c = search (deepening, rules)

pub count_ends-requires : goal.count_ends-requires
count_ends-requires c = search (deepening, rules)

pub returns : goal.returns
returns c = search (deepening, rules)
