-- `api_head::put_text` meets its contract.
use Rattle.std.proofs.Common.{rules}
use Rattle.api_head.proofs.Laws.{ways, text_some}
use Rattle.api_head.proofs.put_text.Goals as goal

pub returns-in-None : goal.returns-in-None
returns-in-None c = search (ways, rules)

pub returns-in-Some : goal.returns-in-Some
returns-in-Some c = text_some _ _ _ _ _ _ _ c.in-Some.is c.plus_one.ensures c.put_all-in-Some.ensures
