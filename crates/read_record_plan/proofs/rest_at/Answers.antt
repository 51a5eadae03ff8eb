-- `read_record_plan::rest_at` meets its contract. Assumes nothing.
use Rattle.std.proofs.Common.{rules}
use Rattle.read_record_plan.proofs.Laws.{resting}
use Rattle.read_record_plan.proofs.rest_at.Goals as goal

pub end_at-requires : goal.end_at-requires
end_at-requires c = search (resting, rules)

pub returns-in-Cut : goal.returns-in-Cut
returns-in-Cut c = search (resting, rules)

pub returns-in-Deep : goal.returns-in-Deep
returns-in-Deep c = search (resting, rules)

pub returns-in-Refused : goal.returns-in-Refused
returns-in-Refused c = search (resting, rules)

pub returns-in-Got-end_at : goal.returns-in-Got-end_at
returns-in-Got-end_at c = search (resting, rules)
