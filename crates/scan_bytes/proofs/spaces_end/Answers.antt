-- The goals of `spaces_end` that are answered by hand; what its loop keeps, and what falls, is in Invariants.antt.
use Rattle.std.proofs.Common.{◌-◌, rules}
use Rattle.scan_bytes.proofs.Scan.{scanning}
use Rattle.scan_bytes.proofs.spaces_end.Goals as goal

pub loop-i-init : goal.loop-i-init
loop-i-init c = search (scanning, rules)

pub bounds-s-i : goal.bounds-s-i
bounds-s-i c = search (scanning, rules)

pub is_not_space-requires : goal.is_not_space-requires
is_not_space-requires c = search (scanning, rules)

pub returns-then-is_not_space : goal.returns-then-is_not_space
returns-then-is_not_space c = search (scanning, rules)

pub overflow_add-i : goal.overflow_add-i
overflow_add-i c = search (scanning, rules)

pub loop-i-smaller : goal.loop-i-smaller
loop-i-smaller c = search (scanning, rules)

pub loop-i-preserved : goal.loop-i-preserved
loop-i-preserved c = search (scanning, rules)

pub returns : goal.returns
returns c = search (scanning, rules)
