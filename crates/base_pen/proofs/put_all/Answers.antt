-- `base_pen::put_all` meets its contract. Assumes nothing.
use Rattle.std.proofs.Common.{arith}
use Rattle.base_pen.specs.Pen.{writes_past, writes_front}
use Rattle.base_pen.proofs.put_all.Goals as goal

pub returns-then-at-out : goal.returns-then-at-out
returns-then-at-out g c = writes_front (omega arith) c.saturating_add-end.ensures c.min-stop.ensures c.store.ensures

pub returns-else-at-out : goal.returns-else-at-out
returns-else-at-out g c = writes_past c.if-at-out.false (omega arith) (λ f. omega arith)
