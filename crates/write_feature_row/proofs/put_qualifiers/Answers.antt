-- The goals of `put_qualifiers` that are answered by hand; what its loop keeps, and what falls, is in Invariants.antt.
use Rattle.std.proofs.Common.{rules, refl, arith}
use Rattle.spec_format.specs.Rooms.{qualifier_in}
use Rattle.spec_format.specs.Write.{qualifier_lines}
use Rattle.write_header.specs.Rows.{each_go, each_done}
use Rattle.base_pen.specs.Pen.{left_start}
use Rattle.judge_rooms.specs.Parts.{qualifier_rooms}
use Rattle.write_feature_row.proofs.put_qualifiers.Goals as goal

pub loop-i-init : goal.loop-i-init
loop-i-init c = (search rules, search rules, refl, left_start)

pub put_qualifier-p-requires : goal.put_qualifier-p-requires
put_qualifier-p-requires c =
    let d = c in
    (record { small = d.requires.0.small; row = omega (arith, d.requires.0.inside.inside); inside = d.requires.0.inside.each _ c.loop-i.invariant.0 c.loop-i-test.true }, d.requires.1, d.requires.2)

pub loop-i-preserved : goal.loop-i-preserved
loop-i-preserved c =
    let a = c.args in
    (search rules, search rules, search rules, each_go (qualifier_lines a.width) (qualifier_in (qualifier_rooms a.texts.now a.qualifiers.now)) 4 _ _ c.loop-i.invariant.3 c.loop-i-test.true c.put_qualifier-p.ensures)

pub returns : goal.returns
returns c =
    each_done (qualifier_lines c.args.width) (qualifier_in (qualifier_rooms c.args.texts.now c.args.qualifiers.now)) 4 _ _ c.loop-i.invariant.3 c.loop-i-test.false
