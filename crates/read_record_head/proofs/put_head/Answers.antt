-- `read_record_head::put_head` meets its contract. Assumes nothing.
use Rattle.std.proofs.Common.{arith}
use Rattle.base_pen.specs.Pen.{writes_append}
use Rattle.read_record_head.proofs.put_head.Goals as goal

pub returns : goal.returns
returns c =
    let pre = c.requires in
    let put-locus = c.put_locus-a.ensures in
    let put-header = c.put_header-b.ensures in
    let put-source = c.put_source.ensures in
    (writes_append (writes_append put-locus put-header) put-source).fit (omega (arith, pre.1))
