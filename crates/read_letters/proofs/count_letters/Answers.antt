-- The goals of `count_letters` that are answered by hand; what its loop keeps, and what falls, is in Invariants.antt.
use Rattle.std.proofs.Common.{◌-◌, arith, rules}
use Rattle.read_letters.proofs.Passing.{count_sixty, count_feed, counts_from, plus_none}
use Rattle.read_letters.proofs.count_letters.Goals as goal

pub loop-i-init : goal.loop-i-init
loop-i-init c = (search rules, search rules, search rules, plus_none _)

pub loop-i-preserved-then-usual : goal.loop-i-preserved-then-usual
loop-i-preserved-then-usual c =
    (omega arith, omega arith, omega arith, count_sixty _ _ _ _ _ (omega arith) (c.usual.ensures.go c.if-usual.true) c.loop-i.invariant.3)

pub returns-then-s-i-ne10 : goal.returns-then-s-i-ne10
returns-then-s-i-ne10 c = counts_from _ _ _ _ _ _ (omega arith) c.loop-i.invariant.3 c.count_from.ensures

pub loop-i-preserved : goal.loop-i-preserved
loop-i-preserved c =
    (omega arith, omega arith, omega arith, count_feed c.args.strict c.args.s.now c.loop-i.i _ _ c.loop-i.invariant.3 (omega arith) c.if-s-i-ne10.false)

pub returns : goal.returns
returns c = counts_from _ _ _ _ _ _ (omega arith) c.loop-i.invariant.3 c.count_from-2.ensures
