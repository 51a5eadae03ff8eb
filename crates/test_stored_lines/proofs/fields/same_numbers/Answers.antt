-- The goals of `fields::same_numbers` that are answered by hand; what its loop keeps, and what falls, is in Invariants.antt.
use Rattle.std.proofs.Common.{refl, arith, rules}
use Rattle.test_stored_lines.specs.Compared.{no, one_more, all_of_them}
use Rattle.test_stored_lines.proofs.fields.same_numbers.Goals as goal

pub returns-then-a-b : goal.returns-then-a-b
returns-then-a-b c = no _ _

pub loop-i-init : goal.loop-i-init
loop-i-init c = (search rules, refl)

pub returns-then-a-i : goal.returns-then-a-i
returns-then-a-i c = no _ _

pub loop-i-preserved : goal.loop-i-preserved
loop-i-preserved c = (search rules, one_more _ _ _ c.loop-i.invariant.1 c.loop-i-test.true (omega arith) c.if-a-i.false)

pub returns : goal.returns
returns c = all_of_them _ _ _ c.loop-i.invariant.1 c.loop-i-test.false (omega arith)
