-- `read_feature_table::feature_rest` meets its contract: one law for each way in which the qualifiers were read.
use Rattle.std.proofs.Common.{arith, rules}
use Rattle.read_feature_table.proofs.Laws.{rest_fits, resting}
use Rattle.read_feature_table.proofs.feature_rest.Goals as goal

pub overflow_add-result-in-Got : goal.overflow_add-result-in-Got
overflow_add-result-in-Got c =
    omega
    (arith, rest_fits _ _ _ _ _ _ _ _ _ c.requires c.qualifiers_at.ensures _ _ _ c.in-Got.is)

pub returns-in-Got : goal.returns-in-Got
returns-in-Got c = search (resting, rules)

pub returns-in-Cut : goal.returns-in-Cut
returns-in-Cut c = search (resting, rules)
