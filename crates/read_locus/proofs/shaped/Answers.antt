-- `read_locus::shaped` meets its contract. Assumes nothing.
use Rattle.read_locus.proofs.shaped.Goals as goal

pub returns-then-span_equal : goal.returns-then-span_equal
returns-then-span_equal c =
    record { is = rw (← c.span_equal.ensures, c.if-span_equal.true); within = (c.requires.0, (c.requires.1.0, c.requires.1.1.1)) }

pub returns-then-span_equal-2 : goal.returns-then-span_equal-2
returns-then-span_equal-2 c =
    let c3 = c in
    let c7 = c3 in
    record { is = rw (← c3.span_equal.ensures, c3.if-span_equal.false, ← c.span_equal-2.ensures, c.if-span_equal-2.true); within = (c7.requires.0, (c7.requires.1.0, c7.requires.1.1.1)) }

pub returns : goal.returns
returns c =
    record { is = rw (← c.span_equal.ensures, c.if-span_equal.false, ← c.span_equal-2.ensures, c.if-span_equal-2.false); within = tt }
