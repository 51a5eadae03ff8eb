-- `read_field_row::put_comment` meets its contract. Assumes nothing.
use Rattle.std.proofs.Common.{true}
use Rattle.read_field_row.specs.Putting.{may_ready, commented_room, puts_none}
use Rattle.read_field_row.proofs.put_comment.Goals as goal

pub put_always-requires : goal.put_always-requires
put_always-requires c =
    let a = c.args in
    let pre = c.requires in
    let comment = c.in-Is.is in
    (may_ready a.s.now true _ _ comment pre.0, commented_room a.s.now true _ _ comment _ pre.1)

pub returns-in-Absent : goal.returns-in-Absent
returns-in-Absent c = rw c.in-Absent.is (puts_none _ _ _)

pub returns-in-Is : goal.returns-in-Is
returns-in-Is c = rw c.in-Is.is c.put_always.ensures
