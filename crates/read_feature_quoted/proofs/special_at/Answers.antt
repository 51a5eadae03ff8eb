-- The goals of `special_at` that are answered by hand; what its loop keeps, and what falls, is in Invariants.antt.
use Rattle.std.proofs.Common.{◌-◌, rules}
use Rattle.scan_bytes.specs.Sequence.{sequence}
use Rattle.read_feature_quoted.proofs.Plains.{plains}
use Rattle.read_feature_quoted.proofs.special_at.Goals as goal

pub loop-i-init : goal.loop-i-init
loop-i-init c = search (plains, sequence, rules)

pub bounds-s-i : goal.bounds-s-i
bounds-s-i c = search (plains, sequence, rules)

pub is_special-requires : goal.is_special-requires
is_special-requires c = search (plains, sequence, rules)

pub returns-then-is_special : goal.returns-then-is_special
returns-then-is_special c = search (plains, sequence, rules)

pub overflow_add-i : goal.overflow_add-i
overflow_add-i c = search (plains, sequence, rules)

pub loop-i-smaller : goal.loop-i-smaller
loop-i-smaller c = search (plains, sequence, rules)

pub loop-i-preserved : goal.loop-i-preserved
loop-i-preserved c = search (plains, sequence, rules)

pub returns : goal.returns
returns c = search (plains, sequence, rules)
