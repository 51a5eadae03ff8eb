-- `write_locus::span_fine` meets its contract.
use Rattle.std.proofs.Common.{◌+◌, ◌-◌, ◌≡◌, length, arith}
use Rattle.write_locus.proofs.span_fine.Goals as goal

pub returns : goal.returns
returns c =
    let c4 = c in
    let y : c4.args.name.start + c4.args.name.length - c4.args.name.start ≡ c4.args.name.length = omega arith in rw y at c.printed_name_fine.ensures
