-- `read_locus_tokens::bases_in` meets its contract. Assumes nothing.
use Rattle.std.proofs.Common.{◌-◌}
use Rattle.read_locus_tokens.proofs.Counted.{bases_not, bases_much, bases_some, bases_long}
use Rattle.read_locus_tokens.proofs.bases_in.Goals as goal

pub returns-then-t-gt10 : goal.returns-then-t-gt10
returns-then-t-gt10 c = bases_long c.args.t.now c.if-t-gt10.true

pub returns-in_default : goal.returns-in_default
returns-in_default c = bases_not _ _ c.decimal_in.ensures c.in_default.is

pub returns-then-n-gt4294967295 : goal.returns-then-n-gt4294967295
returns-then-n-gt4294967295 c = bases_much _ _ c.decimal_in.ensures _ c.in-Value.is c.if-t-gt10.false c.if-n-gt4294967295.true

pub returns : goal.returns
returns c = bases_some _ _ c.decimal_in.ensures _ c.in-Value.is c.if-t-gt10.false c.if-n-gt4294967295.false
