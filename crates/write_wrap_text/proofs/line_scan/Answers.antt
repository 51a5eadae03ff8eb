-- `write_wrap_text::line_scan` meets its contract. Assumes nothing.
use Rattle.std.proofs.Common.{arith}
use Rattle.write_wrap_text.specs.Line.{scanning_full, scanning_feed, scanning_turn, scanning_end}
use Rattle.write_wrap_text.specs.Straight.{last_is, last_more, scanning_start}
use Rattle.write_wrap_text.proofs.line_scan.Goals as goal

pub loop-i-init : goal.loop-i-init
loop-i-init c = scanning_start c.requires.2 c.requires.3 c.requires.4

pub returns-then-stops : goal.returns-then-stops
returns-then-stops c =
    let t = c.args.text.now in
    let i = c.loop-i.i in
    let e = last_is i t (omega arith) c.last_of-space.result c.last_of-space.ensures in
    scanning_full c.loop-i.invariant c.loop-i-test.true c.columns-used.ensures.is c.stops.ensures c.if-stops.true (rw e at c.full.ensures)

pub returns-then-b-eq10 : goal.returns-then-b-eq10
returns-then-b-eq10 c = scanning_feed c.loop-i.invariant c.loop-i-test.true c.columns-used.ensures.is c.stops.ensures c.if-stops.false c.if-b-eq10.true

pub loop-i-preserved : goal.loop-i-preserved
loop-i-preserved c =
    let s = c.columns-used.ensures in
    rw (← (last_more c.loop-i.i c.args.text.now)) (scanning_turn c.loop-i.invariant c.loop-i-test.true s.is c.stops.ensures s.most c.if-stops.false c.if-b-eq10.false)

pub returns : goal.returns
returns c = scanning_end c.loop-i.invariant c.loop-i-test.false (c.loop-i.auto.i-end c.requires.2)
