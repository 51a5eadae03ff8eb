-- `write_locus::put_span_molecule` meets its contract.
use Rattle.std.proofs.Common.{◌+◌, ◌-◌, ◌≡◌, length, arith}
use Rattle.write_locus.proofs.put_span_molecule.Goals as goal

pub returns : goal.returns
returns c =
    let c8 = c in
    let y : c8.args.molecule.start + c8.args.molecule.length - c8.args.molecule.start ≡ c8.args.molecule.length = omega arith in rw y at c.put_molecule.ensures
