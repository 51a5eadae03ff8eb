-- The goals of `empty_lines` that are answered by hand; what its loop keeps, and what falls, is in Invariants.antt.
use Rattle.std.proofs.Common.{rules}
use Rattle.read_slashes.proofs.Laws.{emptying}
use Rattle.read_slashes.proofs.empty_lines.Goals as goal

pub loop-next-init : goal.loop-next-init
loop-next-init c = search (emptying, rules)

pub line_end-requires : goal.line_end-requires
line_end-requires c = search (emptying, rules)

pub enum_known-next : goal.enum_known-next
enum_known-next c = search (emptying, rules)

pub loop-next-smaller : goal.loop-next-smaller
loop-next-smaller c = search (emptying, rules)

pub loop-next-preserved : goal.loop-next-preserved
loop-next-preserved c = search (emptying, rules)

pub enum_told-1 : goal.enum_told-1
enum_told-1 c = search (emptying, rules)

pub returns-in-No : goal.returns-in-No
returns-in-No c = search (emptying, rules)

pub enum_told-in-Cut : goal.enum_told-in-Cut
enum_told-in-Cut c = search (emptying, rules)

pub returns-in-Cut : goal.returns-in-Cut
returns-in-Cut c = search (emptying, rules)
