-- `api_head::put_date` meets its contract.
use Rattle.std.proofs.Common.{rules}
use Rattle.api_head.proofs.Laws.{ways, dated_some}
use Rattle.api_head.proofs.put_date.Goals as goal

pub returns-in-None : goal.returns-in-None
returns-in-None c = search (ways, rules)

pub returns-in-Some : goal.returns-in-Some
returns-in-Some c = dated_some _ _ _ _ _ _ c.in-Some.is c.put_three-in-Some.ensures
