-- `scan_bytes::indent` meets its contract. Assumes nothing.
use Rattle.std.proofs.Common.{arith}
use Rattle.scan_bytes.proofs.indent.Goals as goal

pub overflow_add-result : goal.overflow_add-result
overflow_add-result c = omega (arith, c.wide_indent.ensures.within c.if-wide_indent.true)

pub returns-then-wide_indent : goal.returns-then-wide_indent
returns-then-wide_indent c =
    record { is = c.wide_indent.ensures.go c.if-wide_indent.true; place = (omega arith, c.wide_indent.ensures.within c.if-wide_indent.true) }
