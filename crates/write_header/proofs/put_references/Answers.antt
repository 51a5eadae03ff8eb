-- The goals of `put_references` that are answered by hand; what its loop keeps, and what falls, is in Invariants.antt.
use Rattle.std.proofs.Common.{rules, refl, arith}
use Rattle.spec_format.specs.Rooms.{reference_in}
use Rattle.spec_format.specs.Write.{reference_lines}
use Rattle.write_header.specs.Rows.{each_go, each_done}
use Rattle.base_pen.specs.Pen.{left_start}
use Rattle.judge_rooms.specs.Parts.{reference_rooms}
use native.Mathlib.Nat.{sub-zero}
use Rattle.write_header.proofs.put_references.Goals as goal

pub loop-i-init : goal.loop-i-init
loop-i-init c = (search rules, refl, rw sub-zero left_start)

pub put_reference-p-requires : goal.put_reference-p-requires
put_reference-p-requires c =
    let c6 = c in
    (c6.requires.0.small, omega (arith, c6.requires.0.long), c6.requires.0.each _ c.loop-i-test.true, c6.requires.1, c6.requires.2)

pub loop-i-preserved : goal.loop-i-preserved
loop-i-preserved c =
    let c4 = c in
    let c5 = c4 in
    let c9 = c5 in
    (search rules, search rules, each_go (reference_lines c9.args.width) (reference_in (reference_rooms c9.args.texts.now c9.args.references.now)) 14 _ _ c5.loop-i.invariant.2 c4.loop-i-test.true c.put_reference-p.ensures)

pub returns : goal.returns
returns c =
    let c5 = c in
    each_done (reference_lines c5.args.width) (reference_in (reference_rooms c5.args.texts.now c5.args.references.now)) 14 _ _ c.loop-i.invariant.2 c.loop-i-test.false
