-- The goals of `past_blocks` that are answered by hand; what its loop keeps, and what falls, is in Invariants.antt.
use Rattle.std.proofs.Common.{◌-◌, rules}
use Rattle.scan_lines.proofs.Feeds.{blocks}
use Rattle.scan_lines.proofs.past_blocks.Goals as goal

pub returns-then-input-place : goal.returns-then-input-place
returns-then-input-place c = search (blocks, rules)

pub loop-i-init : goal.loop-i-init
loop-i-init c = search (blocks, rules)

pub overflow_sub-input : goal.overflow_sub-input
overflow_sub-input c = search (blocks, rules)

pub feedless-requires : goal.feedless-requires
feedless-requires c = search (blocks, rules)

pub returns-then-not-feedless : goal.returns-then-not-feedless
returns-then-not-feedless c = search (blocks, rules)

pub overflow_add-i : goal.overflow_add-i
overflow_add-i c = search (blocks, rules)

pub loop-i-smaller : goal.loop-i-smaller
loop-i-smaller c = search (blocks, rules)

pub loop-i-preserved : goal.loop-i-preserved
loop-i-preserved c = search (blocks, rules)

pub returns : goal.returns
returns c = search (blocks, rules)
