-- The goals of `put_lines` that are answered by hand; what its loop keeps, and what falls, is in Invariants.antt.
use Rattle.std.proofs.Common.{refl, arith, rules}
use Rattle.base_pen.specs.Pen.{left_start}
use Rattle.write_origin.specs.Whole.{line_turn, lines_are}
use Rattle.write_origin.proofs.put_lines.Goals as goal

pub loop-i-init : goal.loop-i-init
loop-i-init c = (refl, omega arith, omega arith, omega arith, refl, left_start)

pub returns-then-out-p-lt76 : goal.returns-then-out-p-lt76
returns-then-out-p-lt76 c =
    lines_are _ _ _ _ _ _ c.loop-i.invariant.0 c.loop-i.invariant.1 c.loop-i.invariant.2 c.loop-i.invariant.3 c.loop-i.invariant.5

pub returns : goal.returns
returns c =
    lines_are _ _ _ _ _ _ c.loop-i.invariant.0 c.loop-i.invariant.1 c.loop-i.invariant.2 c.loop-i.invariant.3 c.loop-i.invariant.5

pub loop-i-preserved : goal.loop-i-preserved
loop-i-preserved c =
    (omega arith, omega arith, omega arith, omega arith, search rules, line_turn _ _ c.loop-i.invariant.5 (omega arith) (omega arith) c.store_line.ensures)
