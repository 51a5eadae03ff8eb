-- The goals of `qualifiers_at` that are answered by hand; what its loop keeps, and what falls, is in Invariants.antt.
use Rattle.std.proofs.Common.{◌-◌, arith, rules}
use Rattle.read_feature_qualifiers.proofs.Laws.{bytes_fit, counting}
use Rattle.read_feature_qualifiers.proofs.qualifiers_at.Goals as goal

pub loop-more-init : goal.loop-more-init
loop-more-init c = search (counting, rules)

pub qualifier_at-requires : goal.qualifier_at-requires
qualifier_at-requires c = search (counting, rules)

pub enum_known-more : goal.enum_known-more
enum_known-more c = search (counting, rules)

pub overflow_add-count : goal.overflow_add-count
overflow_add-count c = search (counting, rules)

pub overflow_add-bytes : goal.overflow_add-bytes
overflow_add-bytes c =
    omega
    (arith, bytes_fit _ _ _ _ _ _ _ c.loop-more.invariant c.qualifier_at.ensures _ _ _ _ _ _ c.in-Got.is)

pub loop-more-smaller : goal.loop-more-smaller
loop-more-smaller c = search (counting, rules)

pub loop-more-preserved : goal.loop-more-preserved
loop-more-preserved c = search (counting, rules)

pub enum_told-1 : goal.enum_told-1
enum_told-1 c = search (counting, rules)

pub returns-in-No : goal.returns-in-No
returns-in-No c = search (counting, rules)

pub enum_told-in-Cut : goal.enum_told-in-Cut
enum_told-in-Cut c = search (counting, rules)

pub returns-in-Cut : goal.returns-in-Cut
returns-in-Cut c = search (counting, rules)
