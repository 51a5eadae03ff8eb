-- `api_head::put_rest` meets its contract.
use Rattle.base_pen.specs.Pen.{writes_append}
use Rattle.spec_contracts.specs.Numbers.{rest_numbers}
use Rattle.api_head.proofs.put_rest.Goals as goal

pub returns : goal.returns
unfolding rest_numbers
returns c =
    let c6 = c in
    let c10 = c6 in
    let c14 = c10 in
    writes_append (writes_append (writes_append c14.put_all-a.ensures c10.put-b.ensures) c6.put_contig-c.ensures) c.put.ensures
