-- The goals of `skips` that are answered by hand; what its loop keeps, and what falls, is in Invariants.antt.
use Rattle.std.proofs.Common.{◌-◌, ◌≡◌, arith, rules}
use Rattle.read_letters.proofs.Passing.{skips_none, skips_more}
use Rattle.read_letters.proofs.skips.Goals as goal

pub loop-j-init : goal.loop-j-init
loop-j-init c = (search rules, skips_none _ _)

pub loop-j-preserved : goal.loop-j-preserved
loop-j-preserved c =
    (omega arith, skips_more _ _ _ _ _ _ c.both-ok.ensures (omega arith) c.loop-j.invariant.1 c.is_skipped.ensures)

pub returns : goal.returns
returns c = let e : c.loop-j.j ≡ c.args.n = omega arith in rw e at c.loop-j.invariant.1
