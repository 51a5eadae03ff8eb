-- The goals of `fields::among` that are answered by hand; what its loop keeps, and what falls, is in Invariants.antt.
use Rattle.test_stored_lines.proofs.fields.among.Goals as goal

pub loop-i-init : goal.loop-i-init
loop-i-init c = tt

pub loop-i-preserved : goal.loop-i-preserved
loop-i-preserved c = tt
