-- `read_locus_tokens::date_of_parts` meets its contract. Assumes nothing.
use Rattle.std.proofs.Common.{◌-◌, arith}
use Rattle.read_locus_tokens.proofs.Counted.{date_no_day, date_no_year, date_made, value_below}
use Rattle.read_locus_tokens.proofs.date_of_parts.Goals as goal

pub returns-in_default : goal.returns-in_default
returns-in_default c = date_no_day _ c.args.month.now c.args.year.now _ c.decimal_in.result c.decimal_in.ensures c.in_default.is

pub returns-in_default-decimal_in : goal.returns-in_default-decimal_in
returns-in_default-decimal_in c = date_no_year _ c.args.month.now _ _ _ c.decimal_in.ensures c.decimal_in-2.ensures c.in_default-decimal_in.is

pub overflow_cast-d : goal.overflow_cast-d
overflow_cast-d c = let h = value_below _ _ c.decimal_in.ensures _ 2 c.in-Value.is c.requires.0 in omega arith

pub overflow_cast-y : goal.overflow_cast-y
overflow_cast-y c = let h = value_below _ _ c.decimal_in-2.ensures _ 4 c.in-Value-decimal_in.is c.requires.1 in omega arith

pub returns : goal.returns
returns c =
    let c3 = c in
    let c5 = c3 in
    let c7 = c5 in
    let c9 = c7 in
    let c13 = c9 in
    date_made _ c13.args.month.now _ _ _ c9.decimal_in.ensures c5.decimal_in-2.ensures _ _ _ _ c7.in-Value.is c3.in-Value-decimal_in.is c.month_in.ensures c.from.ensures
