-- `read_feature_table::feature_from` meets its contract: one law for each way in which the location was read.
use Rattle.std.proofs.Common.{rules}
use Rattle.read_feature_table.proofs.Laws.{locating}
use Rattle.read_feature_table.proofs.feature_from.Goals as goal

pub feature_rest-requires : goal.feature_rest-requires
feature_rest-requires c = search (locating, rules)

pub returns-in-Got : goal.returns-in-Got
returns-in-Got c = search (locating, rules)

pub returns-in-No : goal.returns-in-No
returns-in-No c = search (locating, rules)

pub returns-in-Cut : goal.returns-in-Cut
returns-in-Cut c = search (locating, rules)
