-- `write_wrap_text::put_escaped` meets its contract.
use Rattle.std.proofs.Common.{drop}
use Rattle.base_pen.specs.Pen.{Left}
use Rattle.write_wrap_text.specs.Line.{escape}
use Rattle.write_wrap_text.proofs.put_escaped.Given as goal

abbrev pub invariant-loop-b : goal.invariant-loop-b
invariant-loop-b l = Left l.initial.out l.at (escape l.quote l.line) l.out l.p (escape l.quote (drop l.b-index l.line))
