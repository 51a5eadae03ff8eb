-- `write_locus::put_span_name` meets its contract.
use Rattle.std.proofs.Common.{◌+◌, ◌-◌, ◌≡◌, length, arith}
use Rattle.write_locus.proofs.put_span_name.Goals as goal

pub returns : goal.returns
returns c =
    let c8 = c in
    let y : c8.args.name.start + c8.args.name.length - c8.args.name.start ≡ c8.args.name.length = omega arith in rw y at c.put_printed_name.ensures
