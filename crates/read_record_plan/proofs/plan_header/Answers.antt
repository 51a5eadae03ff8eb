-- `read_record_plan::plan_header` meets its contract. Assumes nothing.
use Rattle.std.proofs.Common.{rules}
use Rattle.read_record_plan.proofs.Laws.{heading}
use Rattle.read_record_plan.proofs.plan_header.Goals as goal

pub header_at-header-requires : goal.header_at-header-requires
header_at-header-requires c = search (heading, rules)

pub returns-then-header : goal.returns-then-header
returns-then-header c = search (heading, rules)

pub returns-in-Refused : goal.returns-in-Refused
returns-in-Refused c = search (heading, rules)

pub returns-in-Got : goal.returns-in-Got
returns-in-Got c = search (heading, rules)
