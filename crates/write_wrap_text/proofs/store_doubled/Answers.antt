-- `write_wrap_text::store_doubled` meets its contract. Assumes nothing.
use Rattle.std.proofs.Common.{arith, true}
use Rattle.base_pen.specs.Pen.{writes_append, writes_as}
use Rattle.write_wrap_text.specs.Loop.{escape_turn, escape_done, store_one, shown_quote, shown_other}
use Rattle.write_wrap_text.proofs.store_doubled.Goals as goal
use Rattle.write_wrap_text.proofs.store_doubled.Goals.{then-b-eq34, else-b-eq34}

pub loop-b-preserved : goal.loop-b-preserved
loop-b-preserved c =
    let i = c.loop-b.invariant in
    let turn = escape_turn true c.args.line.now c.loop-b.b-index i.1 c.loop-b-test.true in
    elim c.if-b-eq34.branch [
      | then-b-eq34 w ↦ (omega (arith, i.0, w.p-is), turn (rw (w.out-is, w.p-is) (writes_as (shown_quote w.if-b-eq34.true) (writes_append store_one store_one))))
      | else-b-eq34 w ↦ (omega (arith, i.0, w.p-is), turn (rw (w.out-is, w.p-is) (writes_as (shown_other w.if-b-eq34.false) store_one)))
    ]

pub returns : goal.returns
returns c = escape_done true c.args.line.now c.loop-b.b-index c.loop-b.invariant.1 c.loop-b-test.false
