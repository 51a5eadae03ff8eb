-- `api_head::put_contig` meets its contract.
use Rattle.std.proofs.Common.{rules}
use Rattle.api_head.proofs.Laws.{ways, contig_some}
use Rattle.api_head.proofs.put_contig.Goals as goal

pub returns-in-None : goal.returns-in-None
returns-in-None c = search (ways, rules)

pub returns-in-Some : goal.returns-in-Some
returns-in-Some c =
    let c3 = c in
    contig_some _ _ _ _ _ _ _ _ _ c3.in-Some.is c3.plus_one.ensures c.put_all-in-Some.ensures
