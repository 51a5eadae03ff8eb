-- `read_locus_tokens::date_in` meets its contract. Assumes nothing.
use Rattle.std.proofs.Common.{length-take, length-drop, length-take-le, ◌-◌, sym, arith, rules}
use Rattle.read_locus_tokens.proofs.Counted.{date_short, date_long, date_dash, date_dashes, date_parts}
use Rattle.read_locus_tokens.proofs.date_in.Goals as goal

pub returns-then-t-lt10 : goal.returns-then-t-lt10
returns-then-t-lt10 c = date_short _ c.if-t-lt10.true

pub returns-then-t-gt11 : goal.returns-then-t-gt11
returns-then-t-gt11 c = date_long _ c.if-t-gt11.true

pub returns-then-t-d-ne45 : goal.returns-then-t-d-ne45
returns-then-t-d-ne45 c = date_dash _ c.if-t-d-ne45.true

pub returns-then-t-month_end-ne45 : goal.returns-then-t-month_end-ne45
returns-then-t-month_end-ne45 c = date_dashes _ c.if-t-month_end-ne45.true

pub slice_bounds-date_of_parts-end : goal.slice_bounds-date_of_parts-end
slice_bounds-date_of_parts-end c = sym (length-take-le _ c.args.t.now (omega arith))

pub date_of_parts-requires : goal.date_of_parts-requires
date_of_parts-requires c = (simp length-take (omega arith), simp (length-take, length-drop) (omega arith))

pub returns : goal.returns
returns c =
    let c8 = c in
    let c11 = c8 in
    date_parts c11.args.t.now _ c8.if-t-lt10.false c8.if-t-gt11.false (search rules) (search rules) c.date_of_parts.ensures
