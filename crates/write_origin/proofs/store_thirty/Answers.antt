-- `write_origin::store_thirty` meets its contract.
use Rattle.std.proofs.Common.{◌+◌, arith}
use Rattle.write_origin.specs.Whole.{thrice}
use Rattle.write_origin.proofs.store_thirty.Goals as goal

pub returns : goal.returns
returns c =
    let c6 = c in
    let c10 = c6 in
    let c14 = c10 in
    thrice (c14.args.at + 33) c10.store_spaced.ensures c6.store_spaced-2.ensures c.store_spaced-3.ensures (omega arith) (omega arith) (omega arith)
