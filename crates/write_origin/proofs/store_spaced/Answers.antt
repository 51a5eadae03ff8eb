-- `write_origin::store_spaced` meets its contract.
use Rattle.std.proofs.Common.{◌+◌, refl, arith, ap, length}
use Rattle.write_origin.specs.Whole.{ten_length, twice}
use Rattle.write_origin.proofs.store_spaced.Goals as goal

pub returns : goal.returns
returns c =
    rw c.ten_from-ten.ensures at (twice (c.args.at + 11) c.store.ensures c.store-2.ensures refl (omega (arith, ap length c.ten_from-ten.ensures, ten_length c.args.letters.now c.args.i (omega arith))))
