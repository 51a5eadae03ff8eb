-- The goals of `each_space` that are answered by hand; what its loop keeps, and what falls, is in Invariants.antt.
use Rattle.std.proofs.Common.{rules}
use Rattle.scan_bytes.proofs.Scan.{spacing}
use Rattle.scan_bytes.proofs.each_space.Goals as goal

pub loop-left-init : goal.loop-left-init
loop-left-init c = search (spacing, rules)

pub returns-then-s-i : goal.returns-then-s-i
returns-then-s-i c = search (spacing, rules)

pub bounds-s-i : goal.bounds-s-i
bounds-s-i c = search (spacing, rules)

pub returns-then-s-i-ne32 : goal.returns-then-s-i-ne32
returns-then-s-i-ne32 c = search (spacing, rules)

pub overflow_add-i : goal.overflow_add-i
overflow_add-i c = search (spacing, rules)

pub overflow_sub-left : goal.overflow_sub-left
overflow_sub-left c = search (spacing, rules)

pub loop-left-smaller : goal.loop-left-smaller
loop-left-smaller c = search (spacing, rules)

pub loop-left-preserved : goal.loop-left-preserved
loop-left-preserved c = search (spacing, rules)

pub returns : goal.returns
returns c = search (spacing, rules)
