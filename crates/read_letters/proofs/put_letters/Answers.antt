-- The goals of `put_letters` that are answered by hand; what its loop keeps, and what falls, is in Invariants.antt.
use Rattle.std.proofs.Common.{◌-◌, refl, arith, rules}
use Rattle.read_letters.proofs.Passing.{left_run, left_feed}
use Rattle.base_pen.specs.Pen.{left_start}
use Rattle.read_letters.proofs.put_letters.Goals as goal

pub loop-i-init : goal.loop-i-init
loop-i-init c = (search rules, refl, left_start)

pub loop-i-preserved-then-usual : goal.loop-i-preserved-then-usual
loop-i-preserved-then-usual c =
    (search rules, search rules, left_run _ _ _ _ c.loop-i.invariant.2 (c.usual.ensures.go c.if-usual.true) c.put_sixty-p.ensures)

pub returns-then-s-i-ne10 : goal.returns-then-s-i-ne10
returns-then-s-i-ne10 c = c.loop-i.invariant.2.by _ _ c.put_from.ensures

pub loop-i-preserved : goal.loop-i-preserved
loop-i-preserved c =
    (search rules, search rules, left_feed c.args.s.now c.loop-i.i c.loop-i.invariant.2 (omega arith) c.if-s-i-ne10.false)

pub returns : goal.returns
returns c = c.loop-i.invariant.2.by _ _ c.put_from-2.ensures
