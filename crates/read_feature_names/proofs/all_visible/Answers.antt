-- The goals of `all_visible` that are answered by hand; what its loop keeps, and what falls, is in Invariants.antt.
use Rattle.std.proofs.Common.{◌-◌, rules}
use Rattle.read_feature_names.proofs.Heading.{passing_all}
use Rattle.read_feature_names.proofs.all_visible.Goals as goal

pub loop-i-init : goal.loop-i-init
loop-i-init c = search (passing_all, rules)

pub bounds-s-i : goal.bounds-s-i
bounds-s-i c = search (passing_all, rules)

pub is_visible-requires : goal.is_visible-requires
is_visible-requires c = search (passing_all, rules)

pub returns-then-not-is_visible : goal.returns-then-not-is_visible
returns-then-not-is_visible c = search (passing_all, rules)

pub overflow_add-i : goal.overflow_add-i
overflow_add-i c = search (passing_all, rules)

pub loop-i-smaller : goal.loop-i-smaller
loop-i-smaller c = search (passing_all, rules)

pub loop-i-preserved : goal.loop-i-preserved
loop-i-preserved c = search (passing_all, rules)

pub returns : goal.returns
returns c = search (passing_all, rules)
