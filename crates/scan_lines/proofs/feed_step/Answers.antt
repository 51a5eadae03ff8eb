-- The goals of `feed_step` that are answered by hand; what its loop keeps, and what falls, is in Invariants.antt.
use Rattle.std.proofs.Common.{◌-◌, rules}
use Rattle.scan_lines.proofs.Feeds.{feeding}
use Rattle.scan_lines.proofs.feed_step.Goals as goal

pub loop-i-init : goal.loop-i-init
loop-i-init c = search (feeding, rules)

pub bounds-input-i : goal.bounds-input-i
bounds-input-i c = search (feeding, rules)

pub overflow_add-result : goal.overflow_add-result
overflow_add-result c = search (feeding, rules)

pub returns-then-input-i-eq10 : goal.returns-then-input-i-eq10
returns-then-input-i-eq10 c = search (feeding, rules)

pub overflow_add-i : goal.overflow_add-i
overflow_add-i c = search (feeding, rules)

pub loop-i-smaller : goal.loop-i-smaller
loop-i-smaller c = search (feeding, rules)

pub loop-i-preserved : goal.loop-i-preserved
loop-i-preserved c = search (feeding, rules)

pub returns : goal.returns
returns c = search (feeding, rules)
