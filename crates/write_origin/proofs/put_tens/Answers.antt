-- The goals of `put_tens` that are answered by hand; what its loop keeps, and what falls, is in Invariants.antt.
use Rattle.std.proofs.Common.{refl, arith, rules}
use Rattle.base_pen.specs.Pen.{left_start}
use Rattle.write_origin.specs.Origin.{origin_turn, origin_done, ten_next}
use Rattle.write_origin.proofs.put_tens.Goals as goal

pub loop-i-init : goal.loop-i-init
loop-i-init c = (search rules, (λ h. search rules), refl, left_start)

pub loop-i-smaller : goal.loop-i-smaller
loop-i-smaller c = omega (arith, c.ten_end-end.ensures.some, c.ten_end-end.ensures.inside)

pub loop-i-preserved : goal.loop-i-preserved
loop-i-preserved c =
    let c4 = c in
    let c7 = c4 in
    let c9 = c7 in
    let c10 = c9 in (
      c4.ten_end-end.ensures.inside,
      (λ h. ten_next _ _ _ (c10.loop-i.invariant.1 c9.loop-i-test.true) c4.ten_end-end.ensures h),
      search rules,
      origin_turn _ _ c10.loop-i.invariant.3 c9.loop-i-test.true (c10.loop-i.invariant.1 c9.loop-i-test.true) c4.ten_end-end.ensures c7.put_mark-a.ensures c.put_all-p.ensures,
    )

pub returns : goal.returns
returns c = origin_done _ _ c.loop-i.invariant.3 c.loop-i-test.false c.put.ensures
