-- `read_field_row::put_perhaps` meets its contract. Assumes nothing.
use Rattle.std.proofs.Common.{arith}
use Rattle.read_field_row.specs.Putting.{may_ready, may_room, absent_room, puts_absent, puts_perhaps, plus_one}
use Rattle.read_field_row.proofs.put_perhaps.Goals as goal

pub overflow_add-n : goal.overflow_add-n
overflow_add-n c =
    let w = may_ready c.args.s.now c.args.keep _ _ c.in-Is.is c.requires.0 in omega (arith, w.small, c.well_formed.0.1)

pub put_text-requires : goal.put_text-requires
put_text-requires c =
    let a = c.args in
    let pre = c.requires in
    let e = c.in-Is.is in
    (may_ready a.s.now a.keep _ _ e pre.0, may_room a.s.now a.keep _ _ e _ pre.1)

pub returns-in-Absent : goal.returns-in-Absent
returns-in-Absent c =
    let a = c.args in
    let pre = c.requires in
    let enum_told = c.in-Absent.is in
    let put_all = c.put_all-row.ensures in
    rw enum_told (puts_absent _ _ _ _ _ (absent_room a.s.now a.keep _ enum_told _ pre.1) put_all)

pub returns-in-Is : goal.returns-in-Is
returns-in-Is c =
    let a = c.args in
    let pre = c.requires in
    let e = c.in-Is.is in
    let put-text = c.put_text.ensures in
    rw e (puts_perhaps _ _ _ _ _ _ _ _ put-text (plus_one (may_ready a.s.now a.keep _ _ e pre.0).sized))
