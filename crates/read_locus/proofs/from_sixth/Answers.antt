-- `read_locus::from_sixth` meets its contract. Assumes nothing.
use Rattle.std.proofs.Common.{◌-◌, arith}
use Rattle.read_locus.proofs.Lines.{next_none, next_is, next_end, next_in, many, six, seven}
use Rattle.read_locus.proofs.from_sixth.Goals as goal

pub returns-in_default : goal.returns-in_default
returns-in_default c = rw (next_none _ _ _ _ c.token_at.ensures c.in_default.is, six) c.values.ensures

pub token_at-requires-2 : goal.token_at-requires-2
token_at-requires-2 c = (next_end _ _ _ _ c.token_at.ensures _ _ c.in-At.is, c.requires.1.0)

pub returns-in_default-token_at : goal.returns-in_default-token_at
returns-in_default-token_at c =
    let c2 = c in
    let c4 = c2 in
    let c6 = c4 in
    record { is = many _ (rw (next_is _ _ _ _ c6.token_at.ensures _ _ c4.in-At.is, next_is _ _ _ _ c2.token_at-2.ensures _ _ c.in_default-token_at.is) (omega arith)); within = tt }

pub values-requires-2 : goal.values-requires-2
values-requires-2 c =
    let c4 = c in
    let c6 = c4 in
    let c8 = c6 in
    (c8.requires.1.1.0, (c8.requires.1.1.1.0, (c8.requires.1.1.1.1.0, (c8.requires.1.1.1.1.1, next_in _ _ _ _ c6.token_at.ensures _ _ c4.in-At.is c8.requires.1.0))))

pub returns : goal.returns
returns c =
    let c3 = c in
    let c5 = c3 in
    let c7 = c5 in
    rw (next_is _ _ _ _ c7.token_at.ensures _ _ c5.in-At.is, next_none _ _ _ _ c3.token_at-2.ensures c.in-None.is, seven) c.values-2.ensures
