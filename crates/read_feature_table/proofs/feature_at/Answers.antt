-- `read_feature_table::feature_at` meets its contract: one law for each way in which the kind was read.
use Rattle.std.proofs.Common.{rules}
use Rattle.read_feature_table.proofs.Laws.{kinds}
use Rattle.read_feature_table.proofs.feature_at.Goals as goal

pub feature_from-requires : goal.feature_from-requires
feature_from-requires c = search (kinds, rules)

pub returns-in-Got : goal.returns-in-Got
returns-in-Got c = search (kinds, rules)

pub returns-in-No : goal.returns-in-No
returns-in-No c = search (kinds, rules)

pub returns-in-Cut : goal.returns-in-Cut
returns-in-Cut c = search (kinds, rules)
