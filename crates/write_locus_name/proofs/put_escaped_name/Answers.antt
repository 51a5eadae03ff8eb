-- `write_locus_name::put_escaped_name` meets its contract.
use Rattle.write_locus_name.proofs.Laws.{escaped_yes, escaped_no}
use Rattle.base_pen.specs.Pen.{writes_as}
use Rattle.write_locus_name.proofs.put_escaped_name.Goals as goal

pub returns-then-both : goal.returns-then-both
returns-then-both c =
    let c4 = c in
    let c5 = c4 in
    let c6 = c5 in
    let c9 = c6 in
    writes_as (escaped_yes c9.args.escape _ _ c9.args.name.now c5.both.ensures c6.two_words.ensures c4.if-both.true) c.put_joined.ensures

pub returns : goal.returns
returns c =
    let c4 = c in
    let c5 = c4 in
    let c6 = c5 in
    let c9 = c6 in
    writes_as (escaped_no c9.args.escape _ _ c9.args.name.now c5.both.ensures c6.two_words.ensures c4.if-both.false) c.put_all.ensures
