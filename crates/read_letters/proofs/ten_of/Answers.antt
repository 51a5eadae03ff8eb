-- The goals of `ten_of` that are answered by hand; what its loop keeps, and what falls, is in Invariants.antt.
use Rattle.std.proofs.Common.{◌-◌, refl, arith, rules, length-set}
use Rattle.read_letters.proofs.Passing.{ten_more, ten_done}
use Rattle.read_letters.proofs.ten_of.Goals as goal

pub loop-j-init : goal.loop-j-init
loop-j-init c = (search rules, refl, refl)

pub loop-j-preserved : goal.loop-j-preserved
loop-j-preserved c =
    (omega arith, simp length-set (omega arith), ten_more _ _ _ c.loop-j.j c.requires c.loop-j.invariant.1 (omega arith) c.loop-j.invariant.2)

pub returns : goal.returns
returns c = ten_done c.args.s.now _ c.args.at c.loop-j.j c.loop-j.invariant.1 (omega arith) c.loop-j.invariant.2
