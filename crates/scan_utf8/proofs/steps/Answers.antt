-- The goals of `steps` that are answered by hand; what its loop keeps, and what falls, is in Invariants.antt.
use Rattle.std.proofs.Common.{◌-◌, ◌≡◌, arith, rules}
use Rattle.scan_utf8.specs.States.{ran_none}
use Rattle.scan_bytes.specs.Parts.{part_none}
use Rattle.scan_utf8.proofs.Chars.{ran_on}
use Rattle.scan_utf8.proofs.steps.Goals as goal

pub loop-i-init : goal.loop-i-init
loop-i-init c = (search rules, search rules, rw (part_none c.args.s.now c.args.from c.args.from (omega arith)) (ran_none _))

pub loop-i-preserved : goal.loop-i-preserved
loop-i-preserved c =
    let c3 = c in
    let c5 = c3 in
    (search rules, search rules, ran_on c5.args.u c5.args.s.now c5.args.from c3.loop-i.i _ _ (omega arith) (omega arith) c3.loop-i.invariant.2 c.step-v.ensures)

pub returns : goal.returns
returns c = let e : c.loop-i.i ≡ c.args.to = omega arith in rw e at c.loop-i.invariant.2
