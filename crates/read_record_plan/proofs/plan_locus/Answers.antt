-- `read_record_plan::plan_locus` meets its contract. Assumes nothing.
use Rattle.std.proofs.Common.{rules}
use Rattle.read_record_plan.proofs.Laws.{locating}
use Rattle.read_record_plan.proofs.plan_locus.Goals as goal

pub plan_header-requires : goal.plan_header-requires
plan_header-requires c = search (locating, rules)

pub returns-in-Got : goal.returns-in-Got
returns-in-Got c = search (locating, rules)

pub returns-in-No : goal.returns-in-No
returns-in-No c = search (locating, rules)

pub returns-in-Cut : goal.returns-in-Cut
returns-in-Cut c = search (locating, rules)
