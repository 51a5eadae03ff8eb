-- The goals of `further_lines` that are answered by hand; what its loop keeps, and what falls, is in Invariants.antt.
use Rattle.std.proofs.Common.{◌-◌, drop, arith, rules}
use Rattle.scan_bytes.specs.Parts.{length_part}
use Rattle.read_field_entry.proofs.Turns.{reading_start, reading_more, reading_stop, reading_cut, grown_small}
use Rattle.read_field_entry.specs.Lines.{piece_places, piece_is, piece_is_no, piece_is_cut}
use Rattle.read_field_entry.proofs.further_lines.Goals as goal

pub loop-from-init : goal.loop-from-init
loop-from-init c = (omega arith, omega arith, omega arith, reading_start _ _ _)

pub returns-in-No : goal.returns-in-No
returns-in-No c =
    let c2 = c in
    let c5 = c2 in
    let v = c2.loop-from.invariant in
    reading_stop c5.args.columns c5.args.keep _ _ _ _ _ c5.args.s.now _ c2.loop-from.i v.3 (piece_is_no c2.further_line.ensures c.in-No.is) v.0 v.1 v.2

pub returns-in-Cut : goal.returns-in-Cut
returns-in-Cut c =
    let c2 = c in
    let c5 = c2 in
    reading_cut c5.args.columns c5.args.keep _ _ _ _ _ (drop c2.loop-from.i c5.args.s.now) c2.loop-from.invariant.3 _ _ (piece_is_cut c2.further_line.ensures c.in-Cut.is)

pub line_state-state-requires : goal.line_state-state-requires
line_state-state-requires c = let p = piece_places c.further_line.ensures c.in-Got.is in search rules

pub overflow_sub-end : goal.overflow_sub-end
overflow_sub-end c = let p = piece_places c.further_line.ensures c.in-Got.is in search rules

pub grown-size-requires : goal.grown-size-requires
grown-size-requires c = let p = piece_places c.further_line.ensures c.in-Got.is in search rules

pub loop-from-smaller : goal.loop-from-smaller
loop-from-smaller c = omega (arith, piece_places c.further_line.ensures c.in-Got.is)

pub loop-from-preserved : goal.loop-from-preserved
loop-from-preserved c =
    let c3 = c in
    let c5 = c3 in
    let c8 = c5 in
    let p = piece_places c5.further_line.ensures c3.in-Got.is in
    let v = c5.loop-from.invariant in
    let g = c.grown-size.ensures in
    let k = length_part c8.args.s.now _ _ p.1 (omega arith) in (
      omega arith,
      omega arith,
      grown_small c8.args.keep c8.args.s.now _ _ _ _ _ _ _ _ p v.2 g,
      reading_more c8.args.columns c8.args.keep _ _ _ _ _ (drop c5.loop-from.i c8.args.s.now) v.3 _ _ _ _ _ (piece_is c5.further_line.ensures c3.in-Got.is) c.line_state-state.ensures k g,
    )
