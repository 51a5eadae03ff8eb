-- `write_origin::put_mark` meets its contract.
use Rattle.base_pen.specs.Pen.{writes_nil, writes_append, writes_as}
use Rattle.write_origin.specs.Origin.{mark_line, mark_ten, mark_none}
use Rattle.write_origin.proofs.put_mark.Goals as goal

pub returns-then-i-eq0 : goal.returns-then-i-eq0
returns-then-i-eq0 c =
    let c6 = c in
    let c10 = c6 in
    let c12 = c10 in
    writes_as (mark_line _ c12.if-i-eq0.true) (writes_append (writes_append c10.put-a.ensures c6.put_nine-b.ensures) c.put.ensures)

pub returns-then-i-eq0-2 : goal.returns-then-i-eq0-2
returns-then-i-eq0-2 c = writes_as (mark_ten _ c.if-i-eq0.false c.if-i-eq0-2.true) c.put-then-i-eq0-2.ensures

pub returns : goal.returns
returns c = writes_as (mark_none _ c.if-i-eq0.false c.if-i-eq0-2.false) writes_nil
