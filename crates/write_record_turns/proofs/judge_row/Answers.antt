-- By whether another row may follow this one.
use Rattle.write_record_turns.specs.Judging.{row_fit, judge_wrong}
use Rattle.write_record_turns.proofs.judge_row.Goals as goal

pub returns-in_default : goal.returns-in_default
returns-in_default c =
    let a = c.args in
    rw c.refused.ensures (judge_wrong a.texts.now a.qualifiers.now a.how a.s a.row a.locations.now _ c.row_next.ensures c.in_default.is)

pub location_told-told-requires : goal.location_told-told-requires
location_told-told-requires c =
    let pre = c.requires in
    let a = c.args in
    (pre.0.texts, (row_fit a.texts.now a.qualifiers.now a.row a.s.from _ _ pre.0.texts c.row_next.ensures c.in-Some.is).inside.location, pre.0.locations)

pub judge_told-requires : goal.judge_told-requires
judge_told-requires c =
    let pre = c.requires in
    let a = c.args in
    (row_fit a.texts.now a.qualifiers.now a.row a.s.from _ _ pre.0.texts c.row_next.ensures c.in-Some.is, pre.1, pre.2, pre.3)

pub returns : goal.returns
returns c =
    let a = c.args in c.judge_told.ensures.by a.locations.now _ c.row_next.ensures c.in-Some.is c.location_told-told.ensures
