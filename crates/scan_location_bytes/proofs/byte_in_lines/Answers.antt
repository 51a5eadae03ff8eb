-- The goals of `byte_in_lines` that are answered by hand; what its loop keeps, and what falls, is in Invariants.antt.
use Rattle.std.proofs.Common.{◌-◌, rules}
use Rattle.scan_location_bytes.proofs.Lines.{linewise}
use Rattle.scan_location_bytes.proofs.byte_in_lines.Goals as goal

pub loop-i-init : goal.loop-i-init
loop-i-init c = search (linewise, rules)

pub bounds-s-i : goal.bounds-s-i
bounds-s-i c = search (linewise, rules)

pub is_in_line-requires : goal.is_in_line-requires
is_in_line-requires c = search (linewise, rules)

pub overflow_add-result : goal.overflow_add-result
overflow_add-result c = search (linewise, rules)

pub returns-then-is_in_line : goal.returns-then-is_in_line
returns-then-is_in_line c = search (linewise, rules)

pub further_line-requires : goal.further_line-requires
further_line-requires c = search (linewise, rules)

pub enum_known-n : goal.enum_known-n
enum_known-n c = search (linewise, rules)

pub loop-i-smaller : goal.loop-i-smaller
loop-i-smaller c = search (linewise, rules)

pub loop-i-preserved : goal.loop-i-preserved
loop-i-preserved c = search (linewise, rules)

pub enum_told-1 : goal.enum_told-1
enum_told-1 c = search (linewise, rules)

pub returns-in-No : goal.returns-in-No
returns-in-No c = search (linewise, rules)

pub enum_told-in-Cut : goal.enum_told-in-Cut
enum_told-in-Cut c = search (linewise, rules)

pub returns-in-Cut : goal.returns-in-Cut
returns-in-Cut c = search (linewise, rules)

pub returns : goal.returns
returns c = search (linewise, rules)
