-- Three texts of the row.
use Rattle.std.proofs.Common.{rules, arith}
use Rattle.spec_format.specs.Rooms.{reference_in}
use Rattle.write_header.specs.Header.{reference_start}
use Rattle.base_pen.specs.Pen.{writes_append}
use Rattle.write_header.proofs.put_reference_start.Goals as goal

pub put_row_text-a-requires : goal.put_row_text-a-requires
put_row_text-a-requires c =
    let c5 = c in
    (search rules, record { small = c5.requires.0; row = omega (arith, c5.requires.1); inside = c5.requires.2.text }, c5.requires.3, c5.requires.4)

pub put_row_text_maybe-b-requires : goal.put_row_text_maybe-b-requires
put_row_text_maybe-b-requires c =
    let c10 = c in
    (search rules, record { small = c10.requires.0; row = omega (arith, c10.requires.1); inside = c10.requires.2.authors }, c10.requires.3, c10.requires.4)

pub put_row_text_maybe-requires : goal.put_row_text_maybe-requires
put_row_text_maybe-requires c =
    let c15 = c in
    (search rules, record { small = c15.requires.0; row = omega (arith, c15.requires.1); inside = c15.requires.2.consrtm }, c15.requires.3, c15.requires.4)

pub returns : goal.returns
unfolding reference_start reference_in
returns c =
    let c7 = c in
    let c12 = c7 in
    writes_append (writes_append c12.put_row_text-a.ensures c7.put_row_text_maybe-b.ensures) c.put_row_text_maybe.ensures
