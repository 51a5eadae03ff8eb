-- `write_locus_words::put_next` meets its contract.
use Rattle.write_locus_words.proofs.Laws.{cap_blank, cap_after, cap_alone}
use Rattle.base_pen.specs.Pen.{writes_as, writes_nil, writes_append}
use Rattle.write_locus_words.proofs.put_next.Goals as goal

pub returns-then-is_blank : goal.returns-then-is_blank
returns-then-is_blank c = writes_as (cap_blank c.args.place c.args.b _ c.is_blank.ensures c.if-is_blank.true) writes_nil

pub returns-then-is_after : goal.returns-then-is_after
returns-then-is_after c =
    let c6 = c in
    let c8 = c6 in
    let c9 = c8 in
    let c10 = c9 in
    let c11 = c10 in
    let c13 = c11 in
    writes_as (cap_after c13.args.place c13.args.b _ c11.is_blank.ensures _ c10.if-is_blank.false c9.is_after.ensures c8.if-is_after.true) (writes_append c6.put-next.ensures c.put.ensures)

pub returns : goal.returns
returns c =
    let c4 = c in
    let c5 = c4 in
    let c6 = c5 in
    let c7 = c6 in
    let c9 = c7 in
    writes_as (cap_alone c9.args.place c9.args.b _ c7.is_blank.ensures _ c6.if-is_blank.false c5.is_after.ensures c4.if-is_after.false) c.put-2.ensures
