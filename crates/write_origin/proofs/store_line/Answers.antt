-- `write_origin::store_line` meets its contract.
use Rattle.std.proofs.Common.{◌+◌, arith, ap, length}
use Rattle.write_origin.specs.Number.{number_length}
use Rattle.write_origin.specs.Whole.{thrice}
use Rattle.write_origin.proofs.store_line.Goals as goal

pub store-requires : goal.store-requires
store-requires c = rw c.number_of-number.ensures (omega (arith, number_length (c.args.i + 1) (omega arith) (omega arith)))

pub returns : goal.returns
returns c =
    rw c.number_of-number.ensures at
    (thrice (c.args.at + 76) c.store.ensures c.store_thirty.ensures c.store_thirty-2.ensures (omega (arith, ap length c.number_of-number.ensures, number_length (c.args.i + 1) (omega arith) (omega arith))) (omega arith) (omega arith))
