-- `write_wrap_text::put_escaped` meets its contract. Assumes nothing.
use Rattle.std.proofs.Common.{◌≡◌, true, arith}
use Rattle.base_pen.specs.Pen.{writes_append, writes_as, writes_past}
use Rattle.write_wrap_text.specs.Straight.{escape_single}
use Rattle.write_wrap_text.specs.Loop.{escape_turn, escape_done, shown_quote, shown_other}
use Rattle.write_wrap_text.proofs.put_escaped.Goals as goal
use Rattle.write_wrap_text.proofs.put_escaped.Goals.{then-b-eq34, else-b-eq34}

pub returns-then-is_single : goal.returns-then-is_single
returns-then-is_single c = writes_as (escape_single _ _ (c.is_single.ensures.yes c.if-is_single.true)) c.put_all.ensures

pub returns-then-out-at : goal.returns-then-out-at
returns-then-out-at c =
    let q : c.args.quote ≡ true = c.is_single.ensures.no c.if-is_single.false in
    let e = c.saturating_add.ensures in
    let d = c.saturating_add-then-out-at.ensures in
    rw q (writes_past c.if-out-at.true (omega (arith, e, d)) (λ f. omega (arith, e, d, f, c.quotes_in.ensures)))

pub loop-b-preserved : goal.loop-b-preserved
loop-b-preserved c =
    let q = c.is_single.ensures.no c.if-is_single.false in
    escape_turn _ c.args.line.now c.loop-b.b-index c.loop-b.invariant c.loop-b-test.true
    (rw q (elim c.if-b-eq34.branch [
      | then-b-eq34 w ↦ writes_as (shown_quote w.if-b-eq34.true) (writes_append w.put-p.ensures (rw (w.out-is, w.p-is) at c.put-p-in-loop-b.ensures))
      | else-b-eq34 w ↦ writes_as (shown_other w.if-b-eq34.false) (rw (w.out-is, w.p-is) at c.put-p-in-loop-b.ensures)
    ]))

pub returns : goal.returns
returns c = escape_done _ c.args.line.now c.loop-b.b-index c.loop-b.invariant c.loop-b-test.false
