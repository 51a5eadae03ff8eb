-- `scan_location::digit_at` meets its contract. Assumes nothing.
use Rattle.std.proofs.Common.{rules}
use Rattle.scan_location.proofs.Numbers.{digiting}
use Rattle.scan_location.proofs.digit_at.Goals as goal

pub byte_at-requires : goal.byte_at-requires
byte_at-requires c = search (digiting, rules)

pub enum_known-byte : goal.enum_known-byte
enum_known-byte c = search (digiting, rules)

pub is_digit-requires : goal.is_digit-requires
is_digit-requires c = search (digiting, rules)

pub overflow_sub-result : goal.overflow_sub-result
overflow_sub-result c = search (digiting, rules)

pub overflow_cast-result : goal.overflow_cast-result
overflow_cast-result c = search (digiting, rules)

pub overflow_add-result : goal.overflow_add-result
overflow_add-result c = search (digiting, rules)

pub returns-then-is_digit : goal.returns-then-is_digit
returns-then-is_digit c = search (digiting, rules)

pub enum_told-1 : goal.enum_told-1
enum_told-1 c = search (digiting, rules)

pub returns-else-is_digit : goal.returns-else-is_digit
returns-else-is_digit c = search (digiting, rules)

pub returns-in-End : goal.returns-in-End
returns-in-End c = search (digiting, rules)
