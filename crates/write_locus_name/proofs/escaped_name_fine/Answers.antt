-- `write_locus_name::escaped_name_fine` meets its contract.
use Rattle.write_locus_name.proofs.Laws.{fine_yes, fine_no}
use Rattle.write_locus_name.proofs.escaped_name_fine.Goals as goal

pub returns-then-both : goal.returns-then-both
returns-then-both c =
    let c3 = c in
    let c5 = c3 in
    fine_yes c5.args.escape _ _ c5.args.name.now c.both.ensures c3.two_words.ensures _ c.if-both.true c.words_print.ensures

pub returns : goal.returns
returns c =
    let c3 = c in
    let c4 = c3 in
    let c6 = c4 in
    fine_no c6.args.escape _ _ c6.args.name.now c3.both.ensures c4.two_words.ensures _ _ c.if-both.false c.both-2.ensures c.printing_all.ensures
