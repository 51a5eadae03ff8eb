-- `read_locus::from_third` meets its contract. Assumes nothing.
use Rattle.std.proofs.Common.{◌-◌, arith}
use Rattle.read_locus.proofs.Lines.{next_none, next_is, next_end, next_in, few}
use Rattle.read_locus.proofs.from_third.Goals as goal

pub returns-in_default : goal.returns-in_default
returns-in_default c = record { is = few _ (rw (next_none _ _ _ _ c.token_at.ensures c.in_default.is) (omega arith)); within = tt }

pub token_at-requires-2 : goal.token_at-requires-2
token_at-requires-2 c = (next_end _ _ _ _ c.token_at.ensures _ _ c.in-At.is, c.requires.1.0)

pub returns-in_default-token_at : goal.returns-in_default-token_at
returns-in_default-token_at c =
    record { is = few _ (rw (next_is _ _ _ _ c.token_at.ensures _ _ c.in-At.is, next_none _ _ _ _ c.token_at-2.ensures c.in_default-token_at.is) (omega arith)); within = tt }

pub token_at-requires-3 : goal.token_at-requires-3
token_at-requires-3 c = (next_end _ _ _ _ c.token_at-2.ensures _ _ c.in-At-token_at.is, c.requires.1.0)

pub returns-in_default-token_at-2 : goal.returns-in_default-token_at-2
returns-in_default-token_at-2 c =
    let c2 = c in
    let c4 = c2 in
    let c6 = c4 in
    let c8 = c6 in
    let c10 = c8 in
    record { is = few _ (rw (next_is _ _ _ _ c10.token_at.ensures _ _ c8.in-At.is, next_is _ _ _ _ c6.token_at-2.ensures _ _ c4.in-At-token_at.is, next_none _ _ _ _ c2.token_at-3.ensures c.in_default-token_at-2.is) (omega arith)); within = tt }

pub from_sixth-requires : goal.from_sixth-requires
from_sixth-requires c =
    let c3 = c in
    let c5 = c3 in
    let c7 = c5 in
    let c9 = c7 in
    let c11 = c9 in
    let c13 = c11 in
    (next_end _ _ _ _ c3.token_at-3.ensures _ _ c.in-At-token_at-2.is, (c13.requires.1.0, (c13.requires.1.1, (next_in _ _ _ _ c11.token_at.ensures _ _ c9.in-At.is c13.requires.1.0, (next_in _ _ _ _ c7.token_at-2.ensures _ _ c5.in-At-token_at.is c13.requires.1.0, next_in _ _ _ _ c3.token_at-3.ensures _ _ c.in-At-token_at-2.is c13.requires.1.0)))))

pub returns : goal.returns
returns c =
    let c2 = c in
    let c4 = c2 in
    let c6 = c4 in
    let c8 = c6 in
    let c10 = c8 in
    let c12 = c10 in
    rw (next_is _ _ _ _ c12.token_at.ensures _ _ c10.in-At.is, next_is _ _ _ _ c8.token_at-2.ensures _ _ c6.in-At-token_at.is, next_is _ _ _ _ c4.token_at-3.ensures _ _ c2.in-At-token_at-2.is) c.from_sixth.ensures
