-- The goals of `quoted_on` that are answered by hand; what its loop keeps, and what falls, is in Invariants.antt.
use Rattle.std.proofs.Common.{◌-◌, arith, rules}
use Rattle.scan_bytes.specs.Sequence.{sequence}
use Rattle.read_feature_quoted.proofs.Values.{goings, places, sum_within}
use Rattle.read_feature_quoted.proofs.quoted_on.Goals as goal

pub started-state-requires : goal.started-state-requires
started-state-requires c = search (goings, places, sequence, rules)

pub loop-to-init : goal.loop-to-init
loop-to-init c = search (goings, places, sequence, rules)

pub piece_at-requires : goal.piece_at-requires
piece_at-requires c = search (goings, places, sequence, rules)

pub enum_known-to : goal.enum_known-to
enum_known-to c = search (goings, places, sequence, rules)

pub overflow_sub-length : goal.overflow_sub-length
overflow_sub-length c = search (goings, places, sequence, rules)

pub feed_length-requires : goal.feed_length-requires
feed_length-requires c = search (goings, places, sequence, rules)

pub overflow_add-length : goal.overflow_add-length
overflow_add-length c =
    omega (arith, sum_within _ _ _ _ _ _ _ _ c.loop-to.invariant c.piece_at.ensures _ _ _ _ c.in-On.is _ c.feed_length.ensures)

pub overflow_add-length-in-On : goal.overflow_add-length-in-On
overflow_add-length-in-On c =
    omega (arith, sum_within _ _ _ _ _ _ _ _ c.loop-to.invariant c.piece_at.ensures _ _ _ _ c.in-On.is _ c.feed_length.ensures)

pub run_on-requires : goal.run_on-requires
run_on-requires c = search (goings, places, sequence, rules)

pub fed-state-requires : goal.fed-state-requires
fed-state-requires c = search (goings, places, sequence, rules)

pub loop-to-smaller : goal.loop-to-smaller
loop-to-smaller c = search (goings, places, sequence, rules)

pub loop-to-preserved : goal.loop-to-preserved
loop-to-preserved c = search (goings, places, sequence, rules)

pub enum_known-to-in-Stop-1 : goal.enum_known-to-in-Stop-1
enum_known-to-in-Stop-1 c = search (goings, places, sequence, rules)

pub run_on-last-requires : goal.run_on-last-requires
run_on-last-requires c = search (goings, places, sequence, rules)

pub utf8_ends-requires : goal.utf8_ends-requires
utf8_ends-requires c = search (goings, places, sequence, rules)

pub overflow_sub-result : goal.overflow_sub-result
overflow_sub-result c = search (goings, places, sequence, rules)

pub overflow_add-result : goal.overflow_add-result
overflow_add-result c = search (goings, places, sequence, rules)

pub returns-then-utf8_ends : goal.returns-then-utf8_ends
returns-then-utf8_ends c = search (goings, places, sequence, rules)

pub returns-in-Stop : goal.returns-in-Stop
returns-in-Stop c = search (goings, places, sequence, rules)

pub enum_told-1 : goal.enum_told-1
enum_told-1 c = search (goings, places, sequence, rules)

pub returns-in-No : goal.returns-in-No
returns-in-No c = search (goings, places, sequence, rules)

pub enum_told-in-Cut : goal.enum_told-in-Cut
enum_told-in-Cut c = search (goings, places, sequence, rules)

pub returns-in-Cut : goal.returns-in-Cut
returns-in-Cut c = search (goings, places, sequence, rules)
