-- `prepare`: a refusal leaves no feature to be put; else the plan says.
use Rattle.std.proofs.Common.{rules}
use Rattle.read_record_prepared.proofs.Answers.{plan_ready}
use Rattle.read_record_prepared.proofs.Laws.{preparing}
use Rattle.read_record_prepared.proofs.prepare.Goals as goal

pub returns-then-s-gt-MOST : goal.returns-then-s-gt-MOST
returns-then-s-gt-MOST c = search (preparing, rules)

pub returns-then-s-at : goal.returns-then-s-at
returns-then-s-at c = search (preparing, rules)

pub returns-then-s-at-2 : goal.returns-then-s-at-2
returns-then-s-at-2 c = search (preparing, rules)

pub planned-requires : goal.planned-requires
planned-requires c = search (plan_ready, rules)

pub returns-in-Refused : goal.returns-in-Refused
returns-in-Refused c = search (preparing, rules)

pub returns-in-Ready : goal.returns-in-Ready
returns-in-Ready c = search (preparing, rules)
