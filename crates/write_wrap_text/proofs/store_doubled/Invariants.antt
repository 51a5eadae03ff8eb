-- `write_wrap_text::store_doubled` meets its contract.
use Rattle.std.proofs.Common.{◌+◌, ◌*◌, ◌≤◌, drop, true}
use Rattle.base_pen.specs.Pen.{Left}
use Rattle.write_wrap_text.specs.Line.{escape}
use Rattle.write_wrap_text.proofs.store_doubled.Given as goal

abbrev pub invariant-loop-b : goal.invariant-loop-b
invariant-loop-b l = (l.p ≤ l.at + 2 * l.b-index) × Left l.initial.out l.at (escape true l.line) l.out l.p (escape true (drop l.b-index l.line))
