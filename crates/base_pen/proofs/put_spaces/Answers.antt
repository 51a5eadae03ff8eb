-- `base_pen::put_spaces` meets its contract. Assumes nothing.
use Rattle.std.proofs.Common.{arith, ◌≡◌, ◌≤◌, ◌-◌, ◌∙◌, length, take, drop, length-take, length-drop}
use Rattle.std.proofs.lemmas.List.{length-replicate, take-replicate}
use Rattle.base_pen.specs.Pen.{writes_past, writes_part}
use Rattle.base_pen.proofs.put_spaces.Goals as goal

pub returns-then-at-out : goal.returns-then-at-out
returns-then-at-out c =
    let m = c.min-stop.result - c.args.at in
    let e : length (take m (drop c.args.at c.args.out.now)) ≡ m = rw (length-take, length-drop) (omega arith) in
    let le : m ≤ c.args.n = omega arith in
    writes_part (omega arith) (rw length-replicate c.saturating_add-end.ensures) c.if-at-out.true c.min-stop.ensures (c.fill.ensures.after (λ y h. h) ∙ rw (e, take-replicate))

pub returns-else-at-out : goal.returns-else-at-out
returns-else-at-out c = writes_past c.if-at-out.false (omega arith) (λ f. rw length-replicate (omega (arith, rw length-replicate at f)))
