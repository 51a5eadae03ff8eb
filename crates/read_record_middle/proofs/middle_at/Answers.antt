-- `read_record_middle::middle_at` meets its contract. Assumes nothing.
use Rattle.std.proofs.Common.{rules}
use Rattle.read_record_middle.proofs.Laws.{heading}
use Rattle.read_record_middle.proofs.middle_at.Goals as goal

pub features_at-requires : goal.features_at-requires
features_at-requires c = search (heading, rules)

pub table_from-requires : goal.table_from-requires
table_from-requires c = search (heading, rules)

pub features_at-requires-in-No : goal.features_at-requires-in-No
features_at-requires-in-No c = search (heading, rules)

pub middle_from-requires : goal.middle_from-requires
middle_from-requires c = search (heading, rules)

pub returns-in-Got : goal.returns-in-Got
returns-in-Got c = search (heading, rules)

pub returns-in-No : goal.returns-in-No
returns-in-No c = search (heading, rules)

pub returns-in-Cut : goal.returns-in-Cut
returns-in-Cut c = search (heading, rules)
