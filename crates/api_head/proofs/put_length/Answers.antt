-- `api_head::put_length` meets its contract.
use Rattle.std.proofs.Common.{rules}
use Rattle.api_head.proofs.Laws.{ways, length_some}
use Rattle.api_head.proofs.put_length.Goals as goal

pub returns-in-None : goal.returns-in-None
returns-in-None c = search (ways, rules)

pub returns-in-Some : goal.returns-in-Some
returns-in-Some c = length_some _ _ _ _ _ _ c.in-Some.is c.put-in-Some.ensures
