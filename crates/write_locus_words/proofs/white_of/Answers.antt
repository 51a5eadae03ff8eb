-- `write_locus_words::white_of` meets its contract.
use Rattle.write_locus_words.proofs.Laws.{white_yes, white_two_yes, white_three_yes, white_no}
use Rattle.write_locus_words.proofs.white_of.Goals as goal

pub returns-then-white_one : goal.returns-then-white_one
returns-then-white_one c = white_yes c.args.a c.args.b c.args.c _ c.white_one.ensures c.if-white_one.true

pub returns-then-white_two : goal.returns-then-white_two
returns-then-white_two c =
    let c3 = c in
    let c4 = c3 in
    white_two_yes c4.args.a c4.args.b c4.args.c _ c3.white_one.ensures c.if-white_one.false _ c.white_two.ensures c.if-white_two.true

pub returns-then-white_three : goal.returns-then-white_three
returns-then-white_three c =
    let c3 = c in
    let c4 = c3 in
    let c5 = c4 in
    let c6 = c5 in
    white_three_yes c6.args.a c6.args.b c6.args.c _ c5.white_one.ensures c4.if-white_one.false _ c3.white_two.ensures c.if-white_two.false _ c.white_three.ensures c.if-white_three.true

pub returns : goal.returns
returns c =
    let c3 = c in
    let c4 = c3 in
    let c5 = c4 in
    let c6 = c5 in
    white_no c6.args.a c6.args.b c6.args.c _ c5.white_one.ensures c4.if-white_one.false _ c3.white_two.ensures c.if-white_two.false _ c.white_three.ensures c.if-white_three.false
