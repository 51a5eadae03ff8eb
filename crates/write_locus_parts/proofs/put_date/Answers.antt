-- `write_locus_parts::put_date` meets its contract.
use Rattle.base_pen.specs.Pen.{writes_append}
use Rattle.spec_format.specs.Dates.{date_text}
use Rattle.write_locus_parts.proofs.put_date.Goals as goal

pub returns : goal.returns
unfolding date_text
returns c =
    let c6 = c in
    let c10 = c6 in
    writes_append (writes_append c10.put_day-a.ensures c6.put_month-b.ensures) c.put_year.ensures
