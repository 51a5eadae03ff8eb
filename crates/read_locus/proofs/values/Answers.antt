-- `read_locus::values` meets its contract. Assumes nothing.
use Rattle.std.proofs.Common.{◌-◌}
use Rattle.read_locus.proofs.Lines.{no_name, no_bases, no_unit, no_date, by_shape}
use Rattle.std.proofs.lemmas.Bool.{not_from_false, not_from_true}
use Rattle.read_locus.proofs.values.Goals as goal

pub returns-then-not-span_named : goal.returns-then-not-span_named
returns-then-not-span_named c =
    record { is = no_name _ _ _ _ _ _ _ _ c.span_named.ensures (not_from_false _ c.if-not-span_named.true); within = tt }

pub returns-in_default : goal.returns-in_default
returns-in_default c =
    record { is = no_bases _ _ _ _ _ _ _ _ c.span_named.ensures (not_from_true _ c.if-not-span_named.false) _ c.span_bases.ensures c.in_default.is; within = tt }

pub returns-then-not-span_equal : goal.returns-then-not-span_equal
returns-then-not-span_equal c =
    let c4 = c in
    let c6 = c4 in
    let c8 = c6 in
    record { is = no_unit _ _ _ _ _ _ _ _ c8.span_named.ensures (not_from_true _ c6.if-not-span_named.false) _ c6.span_bases.ensures _ c4.in-Some.is _ c.span_equal.ensures (not_from_false _ c.if-not-span_equal.true); within = tt }

pub returns-in_default-span_date : goal.returns-in_default-span_date
returns-in_default-span_date c =
    let c2 = c in
    let c4 = c2 in
    let c7 = c4 in
    let c9 = c7 in
    let c11 = c9 in
    record { is = no_date _ _ _ _ _ _ _ _ c11.span_named.ensures (not_from_true _ c9.if-not-span_named.false) _ c9.span_bases.ensures _ c7.in-Some.is _ c4.span_equal.ensures (not_from_true _ c2.if-not-span_equal.false) _ c2.span_date.ensures c.in_default-span_date.is; within = tt }

pub returns : goal.returns
returns c =
    let c2 = c in
    let c4 = c2 in
    let c6 = c4 in
    let c9 = c6 in
    let c11 = c9 in
    let c13 = c11 in
    record {
      is = by_shape _ _ _ _ _ _ _ _ c13.span_named.ensures (not_from_true _ c11.if-not-span_named.false) _ c11.span_bases.ensures _ c9.in-Some.is _ c6.span_equal.ensures (not_from_true _ c4.if-not-span_equal.false)
          _ c4.span_date.ensures _ c2.in-Some-span_date.is _ c.shaped.ensures.is;
      within = c.shaped.ensures.within;
    }
