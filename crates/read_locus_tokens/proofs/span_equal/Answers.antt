-- `read_locus_tokens::span_equal` meets its contract. Assumes nothing.
use Rattle.std.proofs.Common.{◌+◌, ◌-◌, ◌≡◌, length, arith}
use Rattle.read_locus_tokens.proofs.span_equal.Goals as goal

pub returns : goal.returns
returns c =
    let c5 = c in
    let y : c5.args.x.start + c5.args.x.length - c5.args.x.start ≡ c5.args.x.length = omega arith in rw y at c.same_text.ensures
