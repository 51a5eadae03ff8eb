-- `read_record_middle::table_from` meets its contract. Assumes nothing.
use Rattle.std.proofs.Common.{rules}
use Rattle.read_record_middle.proofs.Laws.{ending}
use Rattle.read_record_middle.proofs.table_from.Goals as goal

pub deep_feature_at-requires : goal.deep_feature_at-requires
deep_feature_at-requires c = search (ending, rules)

pub returns-then-deep_feature_at : goal.returns-then-deep_feature_at
returns-then-deep_feature_at c = search (ending, rules)

pub middle_from-requires : goal.middle_from-requires
middle_from-requires c = search (ending, rules)

pub returns : goal.returns
returns c = search (ending, rules)
