-- `read_locus_tokens::span_bases` meets its contract. Assumes nothing.
use Rattle.std.proofs.Common.{◌+◌, ◌-◌, ◌≡◌, length, arith}
use Rattle.read_locus_tokens.proofs.span_bases.Goals as goal

pub returns : goal.returns
returns c =
    let y : c.args.x.start + c.args.x.length - c.args.x.start ≡ c.args.x.length = omega arith in rw y at c.bases_in.ensures
