-- `api_head::put_head` meets its contract.
use Rattle.base_pen.specs.Pen.{writes_append}
use Rattle.spec_contracts.specs.Numbers.{head_numbers}
use Rattle.api_head.proofs.put_head.Goals as goal

pub returns : goal.returns
unfolding head_numbers
returns c =
    let c6 = c in
    let c10 = c6 in
    writes_append (writes_append c10.put_locus-a.ensures c6.put_fields-b.ensures) c.put_rest.ensures
