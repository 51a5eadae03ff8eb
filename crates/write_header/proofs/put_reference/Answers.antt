-- The title and what follows it.
use Rattle.std.proofs.Common.{rules, arith}
use Rattle.spec_format.specs.Rooms.{reference_in}
use Rattle.spec_format.specs.Write.{reference_lines}
use Rattle.write_header.specs.Header.{reference_start}
use Rattle.base_pen.specs.Pen.{writes_append}
use Rattle.write_header.proofs.put_reference.Goals as goal

pub put_row_text-b-requires : goal.put_row_text-b-requires
put_row_text-b-requires c =
    let c9 = c in
    (search rules, record { small = c9.requires.0; row = omega (arith, c9.requires.1); inside = c9.requires.2.title }, c9.requires.3, c9.requires.4)

pub put_row_text_maybe-d-requires : goal.put_row_text_maybe-d-requires
put_row_text_maybe-d-requires c =
    let c14 = c in
    (search rules, record { small = c14.requires.0; row = omega (arith, c14.requires.1); inside = c14.requires.2.journal }, c14.requires.3, c14.requires.4)

pub put_row_text_maybe-e-requires : goal.put_row_text_maybe-e-requires
put_row_text_maybe-e-requires c =
    let c19 = c in
    (search rules, record { small = c19.requires.0; row = omega (arith, c19.requires.1); inside = c19.requires.2.pubmed }, c19.requires.3, c19.requires.4)

pub overflow_add-place-4 : goal.overflow_add-place-4
overflow_add-place-4 c =
    let c24 = c in
    let p = c24.requires.1 in let g = c24.well_formed in search rules

pub put_row_text_maybe-requires : goal.put_row_text_maybe-requires
put_row_text_maybe-requires c =
    let c24 = c in
    (search rules, record { small = c24.requires.0; row = omega (arith, c24.requires.1); inside = c24.requires.2.remark }, c24.requires.3, c24.requires.4)

pub returns : goal.returns
unfolding reference_lines reference_start reference_in
returns c =
    let c7 = c in
    let c12 = c7 in
    let c17 = c12 in
    let c22 = c17 in
    writes_append (writes_append (writes_append (writes_append c22.put_reference_start-a.ensures c17.put_row_text-b.ensures) c12.put_row_text_maybe-d.ensures) c7.put_row_text_maybe-e.ensures) c.put_row_text_maybe.ensures
