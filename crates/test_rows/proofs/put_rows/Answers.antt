-- The goals of `put_rows` that are answered by hand; what its loop keeps, and what falls, is in Invariants.antt.
use Rattle.std.proofs.Common.{◌-◌, rules}
use Rattle.base_pen.specs.Pen.{left_start}
use Rattle.test_rows.specs.Flats.{put_on, put_done}
use Rattle.test_rows.proofs.put_rows.Goals as goal

pub loop-i-init : goal.loop-i-init
loop-i-init c = (search rules, search rules, left_start)

pub loop-i-preserved : goal.loop-i-preserved
loop-i-preserved c =
    (search rules, search rules, put_on _ _ _ _ _ _ _ _ _ _ c.loop-i.invariant.2 c.loop-i-test.true (search rules) c.put_row-at.ensures)

pub returns : goal.returns
returns c = put_done _ _ _ _ _ _ c.loop-i.invariant.2 c.loop-i-test.false (search rules) (search rules)
