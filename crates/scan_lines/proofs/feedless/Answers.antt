-- The goals of `feedless` that are answered by hand; what its loop keeps, and what falls, is in Invariants.antt.
use Rattle.std.proofs.Common.{◌-◌, ◌≡◌, arith, rules}
use Rattle.scan_lines.proofs.Feeds.{feedless_none, feedless_on}
use Rattle.scan_lines.proofs.feedless.Goals as goal

pub loop-j-init : goal.loop-j-init
loop-j-init c = (search rules, feedless_none _ _)

pub loop-j-preserved : goal.loop-j-preserved
loop-j-preserved c =
    let l = c.loop-j in
    (omega arith, feedless_on _ _ l.j l.ok c.no_feed.result c.both-ok.result (omega arith) l.invariant.1 c.no_feed.ensures c.both-ok.ensures)

pub returns : goal.returns
returns c = let e : c.loop-j.j ≡ 32 = omega arith in rw e at c.loop-j.invariant.1
