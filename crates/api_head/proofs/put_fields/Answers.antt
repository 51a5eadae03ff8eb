-- `api_head::put_fields` meets its contract.
use Rattle.base_pen.specs.Pen.{writes_append}
use Rattle.spec_contracts.specs.Numbers.{field_numbers}
use Rattle.api_head.proofs.put_fields.Goals as goal

pub returns : goal.returns
unfolding field_numbers
returns c =
    let c6 = c in
    let c10 = c6 in
    let c14 = c10 in
    let c18 = c14 in
    let c22 = c18 in
    writes_append (writes_append (writes_append (writes_append (writes_append c22.put_text-a.ensures c18.put_text-b.ensures) c14.put_text-c.ensures) c10.put_text-d.ensures) c6.put_text-e.ensures) c.put_source.ensures
