-- The goals of `fields::next_line` that are answered by hand; what its loop keeps, and what falls, is in Invariants.antt.
use Rattle.std.proofs.Common.{rules}
use Rattle.test_stored_lines.proofs.fields.next_line.Goals as goal

pub loop-i-init : goal.loop-i-init
loop-i-init c = (search rules, search rules)

pub loop-i-preserved : goal.loop-i-preserved
loop-i-preserved c = (search rules, search rules)
