-- The goals of `sixteen_spaces` that are answered by hand; what its loop keeps, and what falls, is in Invariants.antt.
use Rattle.std.proofs.Common.{◌-◌, ◌≡◌, arith, rules}
use Rattle.scan_bytes.proofs.Scan.{spaced_none, spaced_one}
use Rattle.scan_bytes.proofs.sixteen_spaces.Goals as goal

pub loop-j-init : goal.loop-j-init
loop-j-init c = (search rules, spaced_none _ _)

pub loop-j-preserved : goal.loop-j-preserved
loop-j-preserved c = (omega arith, spaced_one _ _ _ _ _ _ c.loop-j.invariant.1 c.is_space.ensures c.both-ok.ensures)

pub returns : goal.returns
returns c = let e : c.loop-j.j ≡ 16 = omega arith in rw e at c.loop-j.invariant.1
