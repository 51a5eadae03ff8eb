-- `api_head::put_source` meets its contract.
use Rattle.std.proofs.Common.{rules}
use Rattle.api_head.proofs.Laws.{ways, source_some}
use Rattle.api_head.proofs.put_source.Goals as goal

pub returns-in-None : goal.returns-in-None
returns-in-None c = search (ways, rules)

pub returns-in-Some : goal.returns-in-Some
returns-in-Some c =
    let c6 = c in
    let c7 = c6 in
    let c10 = c7 in
    source_some _ _ _ _ _ _ _ _ _ _ c10.in-Some.is c7.plus_one.ensures c6.put_all-next.ensures c.put_text.ensures
