-- The goals of `digits_on` that are answered by hand; what its loop keeps, and what falls, is in Invariants.antt.
use Rattle.std.proofs.Common.{◌-◌, rules}
use Rattle.scan_location_usual.proofs.Numbers.{digiting}
use Rattle.scan_location_usual.proofs.digits_on.Goals as goal

pub loop-i-init : goal.loop-i-init
loop-i-init c = search (digiting, rules)

pub bounds-s-i : goal.bounds-s-i
bounds-s-i c = search (digiting, rules)

pub is_digit-requires : goal.is_digit-requires
is_digit-requires c = search (digiting, rules)

pub returns-then-v-gt429496728 : goal.returns-then-v-gt429496728
returns-then-v-gt429496728 c = search (digiting, rules)

pub overflow_mul-v : goal.overflow_mul-v
overflow_mul-v c = search (digiting, rules)

pub value_of-requires : goal.value_of-requires
value_of-requires c = search (digiting, rules)

pub overflow_add-v : goal.overflow_add-v
overflow_add-v c = search (digiting, rules)

pub overflow_add-i : goal.overflow_add-i
overflow_add-i c = search (digiting, rules)

pub loop-i-smaller : goal.loop-i-smaller
loop-i-smaller c = search (digiting, rules)

pub loop-i-preserved : goal.loop-i-preserved
loop-i-preserved c = search (digiting, rules)

pub returns-else-is_digit : goal.returns-else-is_digit
returns-else-is_digit c = search (digiting, rules)

pub returns : goal.returns
returns c = search (digiting, rules)
