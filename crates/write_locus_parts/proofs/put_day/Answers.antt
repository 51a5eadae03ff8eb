-- `write_locus_parts::put_day` meets its contract.
use Rattle.base_pen.specs.Pen.{writes_append}
use Rattle.write_locus_parts.proofs.put_day.Goals as goal

pub returns : goal.returns
returns c =
    let c6 = c in
    let c10 = c6 in
    writes_append (writes_append c10.put-a.ensures c6.put-b.ensures) c.put.ensures
