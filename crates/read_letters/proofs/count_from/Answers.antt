-- The goals of `count_from` that are answered by hand; what its loop keeps, and what falls, is in Invariants.antt.
use Rattle.std.proofs.Common.{◌-◌, rules}
use Rattle.read_letters.proofs.Passing.{counting}
use Rattle.read_letters.proofs.count_from.Goals as goal

pub loop-i-init : goal.loop-i-init
loop-i-init c = search (counting, rules)

pub bounds-s-i : goal.bounds-s-i
bounds-s-i c = search (counting, rules)

pub is_taken-requires : goal.is_taken-requires
is_taken-requires c = search (counting, rules)

pub overflow_add-k : goal.overflow_add-k
overflow_add-k c = search (counting, rules)

pub overflow_add-i : goal.overflow_add-i
overflow_add-i c = search (counting, rules)

pub loop-i-smaller-then-is_taken : goal.loop-i-smaller-then-is_taken
loop-i-smaller-then-is_taken c = search (counting, rules)

pub loop-i-preserved-then-is_taken : goal.loop-i-preserved-then-is_taken
loop-i-preserved-then-is_taken c = search (counting, rules)

pub returns-then-b-eq47 : goal.returns-then-b-eq47
returns-then-b-eq47 c = search (counting, rules)

pub is_skipped-requires : goal.is_skipped-requires
is_skipped-requires c = search (counting, rules)

pub returns-then-not-is_skipped : goal.returns-then-not-is_skipped
returns-then-not-is_skipped c = search (counting, rules)

pub overflow_add-i-in-loop-i : goal.overflow_add-i-in-loop-i
overflow_add-i-in-loop-i c = search (counting, rules)

pub loop-i-smaller : goal.loop-i-smaller
loop-i-smaller c = search (counting, rules)

pub loop-i-preserved : goal.loop-i-preserved
loop-i-preserved c = search (counting, rules)

pub returns : goal.returns
returns c = search (counting, rules)
