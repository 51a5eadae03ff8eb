-- The goals of `features_at` that are answered by hand; what its loop keeps, and what falls, is in Invariants.antt.
use Rattle.std.proofs.Common.{◌-◌, arith, rules}
use Rattle.read_feature_table.proofs.Laws.{qualifiers_fit, rows_fit, bytes_fit, counting}
use Rattle.read_feature_table.proofs.features_at.Goals as goal

pub loop-qualifiers-init : goal.loop-qualifiers-init
loop-qualifiers-init c = search (counting, rules)

pub feature_at-requires : goal.feature_at-requires
feature_at-requires c = search (counting, rules)

pub enum_known-qualifiers : goal.enum_known-qualifiers
enum_known-qualifiers c = search (counting, rules)

pub overflow_add-count : goal.overflow_add-count
overflow_add-count c = search (counting, rules)

pub overflow_add-all : goal.overflow_add-all
overflow_add-all c =
    omega
    (arith, qualifiers_fit _ _ _ _ _ _ _ _ c.loop-qualifiers.invariant c.feature_at.ensures _ _ _ _ c.in-Got.is)

pub overflow_add-parts : goal.overflow_add-parts
overflow_add-parts c =
    omega
    (arith, rows_fit _ _ _ _ _ _ _ _ c.loop-qualifiers.invariant c.feature_at.ensures _ _ _ _ c.in-Got.is)

pub overflow_add-total : goal.overflow_add-total
overflow_add-total c =
    omega
    (arith, bytes_fit _ _ _ _ _ _ _ _ c.loop-qualifiers.invariant c.feature_at.ensures _ _ _ _ c.in-Got.is)

pub loop-qualifiers-smaller : goal.loop-qualifiers-smaller
loop-qualifiers-smaller c = search (counting, rules)

pub loop-qualifiers-preserved : goal.loop-qualifiers-preserved
loop-qualifiers-preserved c = search (counting, rules)

pub enum_told-1 : goal.enum_told-1
enum_told-1 c = search (counting, rules)

pub returns-in-No : goal.returns-in-No
returns-in-No c = search (counting, rules)

pub enum_told-in-Cut : goal.enum_told-in-Cut
enum_told-in-Cut c = search (counting, rules)

pub returns-in-Cut : goal.returns-in-Cut
returns-in-Cut c = search (counting, rules)
