-- `read_record_head::put_header` meets its contract. Assumes nothing.
use Rattle.base_pen.specs.Pen.{writes_append}
use Rattle.read_record_head.proofs.put_header.Goals as goal

pub returns : goal.returns
returns c =
    let put-may = c.put_may-a.ensures in
    let put-may2 = c.put_may-b.ensures in
    let put-may3 = c.put_may-c.ensures in
    let put-may4 = c.put_may-d.ensures in
    let put-may5 = c.put_may.ensures in
    writes_append (writes_append (writes_append (writes_append put-may put-may2) put-may3) put-may4) put-may5
