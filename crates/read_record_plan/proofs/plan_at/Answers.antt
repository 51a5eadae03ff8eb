-- `read_record_plan::plan_at` meets its contract. Assumes nothing.
use Rattle.std.proofs.Common.{rules}
use Rattle.read_record_plan.proofs.Laws.{starting}
use Rattle.read_record_plan.proofs.plan_at.Goals as goal

pub plan_locus-requires : goal.plan_locus-requires
plan_locus-requires c = search (starting, rules)

pub returns-in-Got : goal.returns-in-Got
returns-in-Got c = search (starting, rules)

pub returns-in-No : goal.returns-in-No
returns-in-No c = search (starting, rules)

pub returns-in-Cut : goal.returns-in-Cut
returns-in-Cut c = search (starting, rules)
