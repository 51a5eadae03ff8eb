-- The goals of `put_further` that are answered by hand; what its loop keeps, and what falls, is in Invariants.antt.
use Rattle.std.proofs.Common.{◌-◌, refl, drop, arith, rules}
use Rattle.read_field_entry.specs.Lines.{piece_places, piece_is, piece_is_no, piece_is_cut}
use Rattle.base_pen.specs.Pen.{left_start}
use Rattle.read_field_text.proofs.Putting.{putting_more, putting_stop, putting_cut}
use Rattle.read_field_text.proofs.put_further.Goals as goal

pub loop-from-init : goal.loop-from-init
loop-from-init c = (search rules, search rules, refl, record { left = left_start; gets = c.requires.1 })

pub returns-in-No : goal.returns-in-No
returns-in-No c =
    let c2 = c in
    let c6 = c2 in
    putting_stop _ _ _ _ _ c6.args.columns c6.args.keep (drop c2.loop-from.i c6.args.s.now) c2.loop-from.invariant.3 (piece_is_no c2.further_line.ensures c.in-No.is)

pub returns-in-Cut : goal.returns-in-Cut
returns-in-Cut c =
    let c2 = c in
    let c6 = c2 in
    putting_cut _ _ _ _ _ c6.args.columns c6.args.keep (drop c2.loop-from.i c6.args.s.now) c2.loop-from.invariant.3 (piece_is_cut c2.further_line.ensures c.in-Cut.is)

pub put_line-p-requires : goal.put_line-p-requires
put_line-p-requires c = let p = piece_places c.further_line.ensures c.in-Got.is in search rules

pub loop-from-smaller : goal.loop-from-smaller
loop-from-smaller c = omega (arith, piece_places c.further_line.ensures c.in-Got.is)

pub loop-from-preserved : goal.loop-from-preserved
loop-from-preserved c =
    let c2 = c in
    let c5 = c2 in
    let c7 = c5 in
    let c11 = c7 in
    let p = piece_places c7.further_line.ensures c5.in-Got.is in (
      omega arith,
      omega arith,
      search rules,
      putting_more _ _ _ _ _ c11.args.columns c11.args.keep (drop c7.loop-from.i c11.args.s.now) c7.loop-from.invariant.3 _ _ _ _ (piece_is c7.further_line.ensures c5.in-Got.is) c2.put_line-p.ensures,
    )
