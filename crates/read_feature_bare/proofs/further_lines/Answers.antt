-- The goals of `further_lines` that are answered by hand; what its loop keeps, and what falls, is in Invariants.antt.
use Rattle.std.proofs.Common.{◌-◌, arith, rules}
use Rattle.read_feature_bare.proofs.Lines.{further_places, goings}
use Rattle.read_feature_bare.proofs.further_lines.Goals as goal

pub loop-from-init : goal.loop-from-init
loop-from-init c = search (goings, rules)

pub further_at-requires : goal.further_at-requires
further_at-requires c = search (goings, rules)

pub enum_known-from : goal.enum_known-from
enum_known-from c = search (goings, rules)

pub overflow_sub-length : goal.overflow_sub-length
overflow_sub-length c = omega (arith, further_places c.further_at.ensures c.in-Line.is)

pub overflow_add-length : goal.overflow_add-length
overflow_add-length c = omega (arith, further_places c.further_at.ensures c.in-Line.is)

pub utf8_on-state-requires : goal.utf8_on-state-requires
utf8_on-state-requires c = let p = further_places c.further_at.ensures c.in-Line.is in search rules

pub loop-from-smaller : goal.loop-from-smaller
loop-from-smaller c = omega (arith, further_places c.further_at.ensures c.in-Line.is)

pub loop-from-preserved : goal.loop-from-preserved
loop-from-preserved c = search (goings, rules)

pub enum_told-1 : goal.enum_told-1
enum_told-1 c = search (goings, rules)

pub returns-in-Stop : goal.returns-in-Stop
returns-in-Stop c = search (goings, rules)

pub enum_told-in-No : goal.enum_told-in-No
enum_told-in-No c = search (goings, rules)

pub returns-in-No : goal.returns-in-No
returns-in-No c = search (goings, rules)

pub enum_told-in-Cut : goal.enum_told-in-Cut
enum_told-in-Cut c = search (goings, rules)

pub returns-in-Cut : goal.returns-in-Cut
returns-in-Cut c = search (goings, rules)
