-- The first line, and the qualifiers where there are some.
use Rattle.std.proofs.Common.{arith}
use Rattle.spec_format.specs.Rooms.{feature_in, qualifier_in}
use Rattle.spec_format.specs.Write.{feature_lines, qualifier_lines}
use Rattle.write_header.specs.Rows.{part_is, none_after}
use Rattle.base_pen.specs.Pen.{writes_append, writes_as}
use Rattle.judge_rooms.specs.Parts.{qualifier_rooms}
use Rattle.write_feature_row.proofs.put_feature_lines.Goals as goal

pub put_first_line-next-requires : goal.put_first_line-next-requires
put_first_line-next-requires c =
    let d = c in
    (record { small = d.requires.0.small; row = d.requires.0.row; kind = d.requires.0.inside.kind; location = d.requires.0.inside.location }, d.requires.1, d.requires.2)

pub returns-then-count-eq0 : goal.returns-then-count-eq0
unfolding feature_lines feature_in qualifier_in
returns-then-count-eq0 c =
    let a = c.args in
    writes_as (none_after (qualifier_lines a.width) (qualifier_in (qualifier_rooms a.texts.now a.qualifiers.now)) 4 _ _ _ c.if-count-eq0.true) c.put_first_line-next.ensures

pub overflow_add-first-2 : goal.overflow_add-first-2
overflow_add-first-2 c = omega (arith, (c.requires.0.inside.qualifiers (omega arith)).inside)

pub put_qualifiers-requires : goal.put_qualifiers-requires
put_qualifiers-requires c =
    let d = c in
    (record { small = d.requires.0.small; order = omega arith; inside = d.requires.0.inside.qualifiers (omega arith) }, d.requires.1, d.requires.2)

pub returns : goal.returns
unfolding feature_lines feature_in qualifier_in
returns c = writes_append c.put_first_line-next.ensures (simp part_is at c.put_qualifiers.ensures)
