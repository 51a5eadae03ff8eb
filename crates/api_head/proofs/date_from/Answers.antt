-- `api_head::date_from` meets its contract.
use Rattle.std.proofs.Common.{rules}
use Rattle.api_head.proofs.Laws.{ways}
use Rattle.api_head.proofs.date_from.Goals as goal

pub returns-then-both : goal.returns-then-both
returns-then-both c = search (ways, rules)

pub returns : goal.returns
returns c = search (ways, rules)
