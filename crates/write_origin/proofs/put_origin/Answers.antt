-- `write_origin::put_origin` meets its contract.
use Rattle.base_pen.specs.Pen.{writes_nil, writes_append, writes_as}
use Rattle.write_origin.specs.Origin.{origin_none, origin_some}
use Rattle.write_origin.proofs.put_origin.Goals as goal

pub returns-then-letters-lt1 : goal.returns-then-letters-lt1
returns-then-letters-lt1 c = writes_as (origin_none _ c.if-letters-lt1.true) writes_nil

pub returns : goal.returns
returns c =
    let c6 = c in
    let c9 = c6 in
    writes_as (origin_some _ c9.if-letters-lt1.false) (writes_append c6.put_all-a.ensures c.put_letters.ensures)
