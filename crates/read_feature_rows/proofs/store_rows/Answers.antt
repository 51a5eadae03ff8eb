-- The goals of `store_rows` that are answered by hand; what its loop keeps, and what falls, is in Invariants.antt.
use Rattle.std.proofs.Common.{◌-◌}
use Rattle.read_feature_rows.proofs.Laws.{storing_on, storing_all}
use Rattle.read_feature_rows.proofs.store_rows.Goals as goal

pub loop-reached-preserved : goal.loop-reached-preserved
loop-reached-preserved c =
    let a = c.args in
    let l = c.loop-reached in
    let m = c.make_row-made in
    rw c.store_row.ensures.rows (storing_on
    a.s.now
    a.at
    a.n
    a.place
    a.texts.now
    a.rows.now
    a.qualifiers.now
    a.locations.now
    c.requires
    l.texts
    l.rows
    l.qualifiers
    l.locations
    l.reached
    l.invariant
    m.new.texts
    m.new.qualifiers
    m.new.locations
    m.result
    c.loop-reached-test.true
    m.ensures
    m.auto.texts
    m.auto.qualifiers
    m.auto.locations)

pub returns : goal.returns
returns c =
    let a = c.args in
    let l = c.loop-reached in
    storing_all
    a.s.now
    a.at
    a.n
    a.place
    a.texts.now
    a.rows.now
    a.qualifiers.now
    a.locations.now
    c.requires
    l.texts
    l.rows
    l.qualifiers
    l.locations
    l.reached
    l.invariant
    c.loop-reached-test.false
