-- `write_decimal::put_decimal` meets its contract. Assumes nothing.
use Rattle.std.proofs.Common.{sym}
use Rattle.base_pen.specs.Pen.{writes_append, writes_as}
use Rattle.write_decimal.specs.Decimal.{decimal_one, decimal_more}
use Rattle.write_decimal.proofs.+put_decimal.Goals as goal
use Rattle.write_decimal.proofs.+put_decimal.Goals.{then-n-lt10, else-n-lt10}

pub returns : goal.returns
returns t c =
    elim c.if-n-lt10.branch [
      | then-n-lt10 w ↦ writes_as (sym (decimal_one c.args.n w.if-n-lt10.true)) (rw (w.out-is, w.last-is) at c.put.ensures)
      | else-n-lt10 w ↦ writes_as (sym (decimal_more c.args.n w.if-n-lt10.false c.ranges.n.fits)) (writes_append w.put_decimal-last.ensures (rw (w.out-is, w.last-is) at c.put.ensures))
    ]
