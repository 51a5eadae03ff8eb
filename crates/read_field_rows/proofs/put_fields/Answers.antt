-- The goals of `put_fields` that are answered by hand; what its loop keeps, and what falls, is in Invariants.antt.
use Rattle.std.proofs.Common.{◌-◌, refl, arith, rules}
use Rattle.read_field_rows.proofs.Walking.{walking_start, walking_no, walking_cut, walking_known, walking_ready, walking_room, walking_more}
use Rattle.read_field_rows.proofs.put_fields.Goals as goal

pub loop-pens-init : goal.loop-pens-init
loop-pens-init c = (c.requires.0, refl, refl, walking_start _ _ _ _ _ _)

pub header_field_at-requires : goal.header_field_at-requires
header_field_at-requires c = c.loop-pens.invariant.0

pub returns-in-No : goal.returns-in-No
returns-in-No c = walking_no c.args.s.now _ _ _ _ _ _ _ _ _ c.loop-pens.invariant.3 _ c.header_field_at.ensures c.in-No.is

pub returns-in-Cut : goal.returns-in-Cut
returns-in-Cut c = walking_cut c.args.s.now _ _ _ _ _ _ _ _ _ c.loop-pens.invariant.3 _ c.header_field_at.ensures c.in-Cut.is

pub put_found-pens-requires : goal.put_found-pens-requires
put_found-pens-requires c =
    let a = c.args in
    let pre = c.requires in
    let header-field-at = c.header_field_at.ensures in
    let loop = c.loop-pens.invariant in
    let field = c.in-Got.is in
    (walking_ready a.s.now _ _ _ _ _ _ _ _ _ loop.3 _ header-field-at _ _ field, walking_room a.s.now _ _ _ _ _ _ _ _ _ loop.3 _ header-field-at _ _ field pre.1)

pub loop-pens-smaller : goal.loop-pens-smaller
loop-pens-smaller c =
    let found = c in
    let asked = found in
    let turn = asked in
    let h = walking_known turn.args.s.now _ _ _ _ _ _ _ _ _ turn.loop-pens.invariant.3 _ asked.header_field_at.ensures _ _ found.in-Got.is in
    omega (arith, h.ahead, h.within)

pub loop-pens-preserved : goal.loop-pens-preserved
loop-pens-preserved c =
    let a = c.args in
    let header-field-at = c.header_field_at.ensures in
    let loop = c.loop-pens.invariant in
    let field = c.in-Got.is in
    let put-found = c.put_found-pens.ensures in
    ((walking_known a.s.now _ _ _ _ _ _ _ _ _ loop.3 _ header-field-at _ _ field).within, search rules, search rules, walking_more a.s.now _ _ _ _ _ _ _ _ _ loop.3 _ header-field-at _ _ field _ _ _ put-found)
