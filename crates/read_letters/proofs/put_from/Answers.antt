-- The goals of `put_from` that are answered by hand; what its loop keeps, and what falls, is in Invariants.antt.
use Rattle.std.proofs.Common.{◌-◌, refl, rules}
use Rattle.read_letters.proofs.Passing.{left_letter, left_skip, left_stop, left_over}
use Rattle.base_pen.specs.Pen.{left_start}
use Rattle.std.proofs.lemmas.Bool.{not_from_false, not_from_true}
use Rattle.read_letters.proofs.put_from.Goals as goal

pub loop-i-init : goal.loop-i-init
loop-i-init c = (search rules, refl, left_start)

pub loop-i-preserved-then-is_letter : goal.loop-i-preserved-then-is_letter
loop-i-preserved-then-is_letter c =
    let c2 = c in
    let c4 = c2 in
    let c7 = c4 in
    (search rules, search rules, left_letter _ _ c7.loop-i.invariant.2 _ c7.loop-i-test.true c4.is_letter.ensures c4.if-is_letter.true c2.put-p.ensures)

pub returns-then-not-is_skipped : goal.returns-then-not-is_skipped
returns-then-not-is_skipped c =
    left_stop _ _ c.loop-i.invariant.2 _ _ c.loop-i-test.true c.is_letter.ensures c.if-is_letter.false c.is_skipped.ensures (not_from_false _ c.if-not-is_skipped.true)

pub loop-i-preserved : goal.loop-i-preserved
loop-i-preserved c =
    (search rules, search rules, left_skip _ _ c.loop-i.invariant.2 _ c.loop-i-test.true c.is_skipped.ensures (not_from_true _ c.if-not-is_skipped.false))

pub returns : goal.returns
returns c = left_over _ _ c.loop-i.invariant.2 c.loop-i-test.false
