-- The goals of `eight_inside` that are answered by hand; what its loop keeps, and what falls, is in Invariants.antt.
use Rattle.std.proofs.Common.{◌-◌, ◌≡◌, arith, rules}
use Rattle.scan_bytes.proofs.Scan.{passes_none, passes_over}
use Rattle.scan_bytes.proofs.eight_inside.Goals as goal

pub loop-j-init : goal.loop-j-init
loop-j-init c = (search rules, passes_none _ _ _)

pub loop-j-preserved : goal.loop-j-preserved
loop-j-preserved c =
    let l = c.loop-j in
    (omega arith, passes_over _ _ l.j l.ok c.is_above_stops.result c.both-ok.result (omega arith) l.invariant.1 c.is_above_stops.ensures c.both-ok.ensures)

pub returns : goal.returns
returns c = let e : c.loop-j.j ≡ 8 = omega arith in rw e at c.loop-j.invariant.1
