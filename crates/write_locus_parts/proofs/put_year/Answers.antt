-- `write_locus_parts::put_year` meets its contract.
use Rattle.base_pen.specs.Pen.{writes_append}
use Rattle.write_locus_parts.proofs.put_year.Goals as goal

pub returns : goal.returns
returns c =
    let c6 = c in
    let c10 = c6 in
    let c14 = c10 in
    let c18 = c14 in
    writes_append (writes_append (writes_append (writes_append c18.put-a.ensures c14.put-b.ensures) c10.put-c.ensures) c6.put-d.ensures) c.put.ensures
