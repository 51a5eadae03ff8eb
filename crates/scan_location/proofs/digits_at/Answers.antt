-- The goals of `digits_at` that are answered by hand; what its loop keeps, and what falls, is in Invariants.antt.
use Rattle.std.proofs.Common.{◌-◌, rules}
use Rattle.scan_location.proofs.Numbers.{counting}
use Rattle.scan_location.proofs.digits_at.Goals as goal

pub loop-value-init : goal.loop-value-init
loop-value-init c = search (counting, rules)

pub digit_at-requires : goal.digit_at-requires
digit_at-requires c = search (counting, rules)

pub enum_known-value : goal.enum_known-value
enum_known-value c = search (counting, rules)

pub overflow_mul-v : goal.overflow_mul-v
overflow_mul-v c = search (counting, rules)

pub overflow_add-v : goal.overflow_add-v
overflow_add-v c = search (counting, rules)

pub returns-then-v-gt4294967295 : goal.returns-then-v-gt4294967295
returns-then-v-gt4294967295 c = search (counting, rules)

pub loop-value-smaller : goal.loop-value-smaller
loop-value-smaller c = search (counting, rules)

pub loop-value-preserved : goal.loop-value-preserved
loop-value-preserved c = search (counting, rules)

pub enum_told-1 : goal.enum_told-1
enum_told-1 c = search (counting, rules)

pub returns-in-None : goal.returns-in-None
returns-in-None c = search (counting, rules)
