-- The goals of `eight_ordinary` that are answered by hand; what its loop keeps, and what falls, is in Invariants.antt.
use Rattle.std.proofs.Common.{◌-◌, ◌≡◌, arith, rules}
use Rattle.read_feature_quoted.proofs.Plains.{onward_none, onward_one}
use Rattle.read_feature_quoted.proofs.eight_ordinary.Goals as goal

pub loop-j-init : goal.loop-j-init
loop-j-init c = (search rules, onward_none _ _)

pub loop-j-preserved : goal.loop-j-preserved
loop-j-preserved c =
    let c2 = c in
    let c6 = c2 in
    let c8 = c6 in
    (omega arith, onward_one c8.args.s.now c8.args.at c6.loop-j.j (omega arith) _ _ _ _ _ c6.loop-j.invariant.1 c2.is_ordinary.ensures c2.is_ascii.ensures c.both.ensures c.both-ok.ensures)

pub returns : goal.returns
returns c = let e : c.loop-j.j ≡ 8 = omega arith in rw e at c.loop-j.invariant.1
