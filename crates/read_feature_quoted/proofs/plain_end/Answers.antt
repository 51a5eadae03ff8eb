-- The goals of `plain_end` that are answered by hand; what its loop keeps, and what falls, is in Invariants.antt.
use Rattle.std.proofs.Common.{◌-◌, rules}
use borrow.Author.Tests.{not-false}
use Rattle.scan_bytes.specs.Sequence.{sequence}
use Rattle.read_feature_quoted.proofs.Plains.{plains}
use Rattle.std.proofs.lemmas.Bool.{not_from_true}
use Rattle.read_feature_quoted.proofs.plain_end.Goals as goal

pub loop-i-init : goal.loop-i-init
loop-i-init c = search (plains, sequence, rules)

pub overflow_sub-s : goal.overflow_sub-s
overflow_sub-s c = search (plains, sequence, rules)

pub eight_ordinary-requires : goal.eight_ordinary-requires
eight_ordinary-requires c = search (plains, sequence, rules)

pub overflow_add-i : goal.overflow_add-i
overflow_add-i c = search (plains, sequence, rules)

pub loop-i-smaller : goal.loop-i-smaller
loop-i-smaller c = search (plains, sequence, rules)

pub loop-i-preserved : goal.loop-i-preserved
loop-i-preserved c =
    c.eight_ordinary.ensures.go (not-false _ (not_from_true _ c.if-not-eight_ordinary.false)) _ c.loop-i.invariant

pub loop-i-2-init : goal.loop-i-2-init
loop-i-2-init c = search (plains, sequence, rules)

pub bounds-s-i : goal.bounds-s-i
bounds-s-i c = search (plains, sequence, rules)

pub is_special-requires : goal.is_special-requires
is_special-requires c = search (plains, sequence, rules)

pub returns-then-is_special : goal.returns-then-is_special
returns-then-is_special c = search (plains, sequence, rules)

pub special_at-requires : goal.special_at-requires
special_at-requires c = search (plains, sequence, rules)

pub returns-then-b-ge128 : goal.returns-then-b-ge128
returns-then-b-ge128 c = search (plains, sequence, rules)

pub overflow_add-i-in-loop-i-2 : goal.overflow_add-i-in-loop-i-2
overflow_add-i-in-loop-i-2 c = search (plains, sequence, rules)

pub loop-i-2-smaller : goal.loop-i-2-smaller
loop-i-2-smaller c = search (plains, sequence, rules)

pub loop-i-2-preserved : goal.loop-i-2-preserved
loop-i-2-preserved c = search (plains, sequence, rules)

pub returns : goal.returns
returns c = search (plains, sequence, rules)
