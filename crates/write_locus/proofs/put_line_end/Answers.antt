-- Division and date, one after the other.
use Rattle.std.proofs.Common.{◌+◌, ◌-◌, ◌≡◌, ap, length, arith}
use Rattle.write_locus.specs.Line.{line_end}
use Rattle.base_pen.specs.Pen.{writes_append, writes_as}
use Rattle.spec_format.specs.Dates.{date_text}
use Rattle.write_locus.proofs.put_line_end.Goals as goal

pub returns : goal.returns
unfolding line_end
returns c =
    let c6 = c in
    let c7 = c6 in
    let c11 = c7 in
    let c15 = c11 in
    let c20 = c15 in
    let y : c20.args.division.start + c20.args.division.length - c20.args.division.start ≡ c20.args.division.length = omega arith in writes_append (writes_append (writes_append (rw y at c15.put_all-a.ensures) c11.put-b.ensures) (writes_as (ap date_text c7.printed_date.ensures) c6.put_date-c.ensures)) c.put.ensures
