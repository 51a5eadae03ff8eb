-- `read_feature_qualifiers::qualifier_from` meets its contract: one law for each way in which the tail was read.
use Rattle.std.proofs.Common.{arith, rules}
use Rattle.read_feature_qualifiers.proofs.Laws.{value_fits, tailing}
use Rattle.read_feature_qualifiers.proofs.qualifier_from.Goals as goal

pub overflow_add-result : goal.overflow_add-result
overflow_add-result c =
    omega
    (arith, value_fits _ _ _ _ _ _ _ c.requires c.translation_key-joined.ensures c.tail_at.ensures _ _ _ _ c.in-With.is)

pub returns-in-Absent : goal.returns-in-Absent
returns-in-Absent c = search (tailing, rules)

pub returns-in-With : goal.returns-in-With
returns-in-With c = search (tailing, rules)

pub returns-in-No : goal.returns-in-No
returns-in-No c = search (tailing, rules)

pub returns-in-Cut : goal.returns-in-Cut
returns-in-Cut c = search (tailing, rules)
