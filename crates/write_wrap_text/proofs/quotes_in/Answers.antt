-- `write_wrap_text::quotes_in` meets its contract. Assumes nothing.
use Rattle.std.proofs.Common.{arith}
use Rattle.write_wrap_text.specs.Loop.{quoted_turn, other_turn, escape_none}
use Rattle.write_wrap_text.proofs.quotes_in.Goals as goal
use Rattle.write_wrap_text.proofs.quotes_in.Goals.{then-b-eq34, else-b-eq34}

pub loop-b-preserved : goal.loop-b-preserved
loop-b-preserved c =
    let i = c.loop-b.invariant in
    let l = c.args.line.now in
    elim c.if-b-eq34.branch [
      | then-b-eq34 w ↦ (omega (arith, i.0, quoted_turn l c.loop-b.b-index c.loop-b-test.true w.if-b-eq34.true, w.n-is), omega (arith, i.1, w.n-is))
      | else-b-eq34 w ↦ (omega (arith, i.0, other_turn l c.loop-b.b-index c.loop-b-test.true w.if-b-eq34.false, w.n-is), omega (arith, i.1, w.n-is))
    ]

pub returns : goal.returns
returns c = omega (arith, c.loop-b.invariant.0, escape_none c.args.line.now c.loop-b.b-index c.loop-b-test.false, c.loop-b.auto.b-index-end)
