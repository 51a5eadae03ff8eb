-- `write_locus_parts::put_month` meets its contract.
use Rattle.std.proofs.Common.{◌+◌, ◌-◌, ◌*◌, ◌≡◌, arith, rules}
use Rattle.base_pen.specs.Pen.{writes_nil, writes_as}
use Rattle.write_locus_parts.specs.Locus.{month_is, month_none}
use Rattle.write_locus_parts.proofs.put_month.Goals as goal

pub returns-then-month-gt12 : goal.returns-then-month-gt12
returns-then-month-gt12 c = writes_as (month_none _ c.if-month-gt12.true) writes_nil

pub returns : goal.returns
returns c =
    let m = c.args.month in
    let e : c.left_of-from.result ≡ m - 1 = c.left_of-from.ensures in
    let y : (m - 1) * 3 + 3 - (m - 1) * 3 ≡ 3 = omega arith in
    writes_as (rw (e, y) (month_is m (search rules))) c.put_all.ensures
