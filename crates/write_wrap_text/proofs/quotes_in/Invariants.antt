-- `write_wrap_text::quotes_in` meets its contract.
use Rattle.std.proofs.Common.{◌≡◌, ◌+◌, ◌≤◌, length, drop, true}
use Rattle.write_wrap_text.specs.Line.{escape}
use Rattle.write_wrap_text.proofs.quotes_in.Given as goal

abbrev pub invariant-loop-b : goal.invariant-loop-b
invariant-loop-b l = (l.b-index + l.n + length (escape true (drop l.b-index l.line)) ≡ length (escape true l.line)) × (l.n ≤ l.b-index)
