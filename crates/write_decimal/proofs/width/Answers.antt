-- `write_decimal::width` meets its contract. Assumes nothing.
use Rattle.std.proofs.Common.{arith, zero-add, ◌∙◌, ◌≡◌, length}
use Rattle.write_decimal.specs.Decimal.{length_decimal}
use Rattle.spec_format.specs.Bytes.{decimal}
use Rattle.write_decimal.proofs.width.Goals as goal

pub returns : goal.returns
returns c =
    let long : c.put_decimal.result ≡ length (decimal c.args.n) = (c.put_decimal.ensures.fit (omega (arith, length_decimal c.args.n))).to ∙ zero-add (length (decimal c.args.n)) in
    record { value = long; most = omega (arith, long, length_decimal c.args.n) }
