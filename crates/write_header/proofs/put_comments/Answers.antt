-- The goals of `put_comments` that are answered by hand; what its loop keeps, and what falls, is in Invariants.antt.
use Rattle.std.proofs.Common.{rules, refl, arith}
use Rattle.spec_format.specs.Bytes.{bytes}
use Rattle.spec_format.specs.Rooms.{comment_in}
use Rattle.spec_format.specs.Write.{field_lines}
use Rattle.write_header.specs.Rows.{each_go, each_done}
use Rattle.base_pen.specs.Pen.{left_start}
use Rattle.judge_rooms.specs.Parts.{comment_rooms}
use native.Mathlib.Nat.{sub-zero}
use Rattle.write_header.proofs.put_comments.Goals as goal

pub loop-i-init : goal.loop-i-init
loop-i-init c = (search rules, refl, rw sub-zero left_start)

pub put_row_text-p-requires : goal.put_row_text-p-requires
put_row_text-p-requires c =
    let r = c.requires in
    (search rules, record { small = r.0.small; row = omega (arith, r.0.long); inside = r.0.each _ c.loop-i-test.true }, r.1, r.2)

pub loop-i-preserved : goal.loop-i-preserved
unfolding comment_in
loop-i-preserved c =
    let a = c.args in (
      search rules,
      search rules,
      each_go (field_lines a.width (bytes "COMMENT")) (comment_in (comment_rooms a.texts.now a.comments.now)) 2 _ _ c.loop-i.invariant.2 c.loop-i-test.true c.put_row_text-p.ensures,
    )

pub returns : goal.returns
returns c =
    let a = c.args in
    each_done (field_lines a.width (bytes "COMMENT")) (comment_in (comment_rooms a.texts.now a.comments.now)) 2 _ _ c.loop-i.invariant.2 c.loop-i-test.false
