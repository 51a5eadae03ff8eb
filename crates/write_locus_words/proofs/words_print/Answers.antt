-- The goals of `words_print` that are answered by hand; what its loop keeps, and what falls, is in Invariants.antt.
use Rattle.std.proofs.Common.{◌-◌, refl, rules}
use Rattle.write_locus_words.proofs.Laws.{prints_turn, prints_no, prints_end}
use Rattle.write_locus_words.specs.Words.{blanked_prints}
use Rattle.std.proofs.lemmas.Bool.{not_from_false, not_from_true}
use Rattle.write_locus_words.proofs.words_print.Goals as goal

pub loop-i-init : goal.loop-i-init
loop-i-init c = (search rules, blanked_prints c.args.name.now)

pub returns-then-not-is_between : goal.returns-then-not-is_between
returns-then-not-is_between c =
    let c4 = c in
    let c5 = c4 in
    let c6 = c5 in
    let c8 = c6 in
    let loop = c6.loop-i in
    let white = c4.white_from-w in
    let shown = c.shown_byte in
    prints_no c8.args.name.now loop.i loop.white white.result shown.result (white.result - 1) c5.loop-i-test.true white.ensures shown.ensures refl
    _ _ loop.invariant.1 c.is_between.ensures (not_from_false _ c.if-not-is_between.true)

pub loop-i-preserved : goal.loop-i-preserved
loop-i-preserved c =
    let c3 = c in
    let c5 = c3 in
    let c6 = c5 in
    let c7 = c6 in
    let c9 = c7 in
    let loop = c7.loop-i in
    let white = c5.white_from-w in
    let shown = c3.shown_byte in (
      search rules,
      prints_turn c9.args.name.now loop.i loop.white white.result shown.result c.left_of-white.result c6.loop-i-test.true white.ensures shown.ensures
          c.left_of-white.ensures _ _ loop.invariant.1 c.is_between.ensures (not_from_true _ c.if-not-is_between.false),
    )

pub returns : goal.returns
returns c = prints_end c.args.name.now c.loop-i.i c.loop-i.white c.loop-i-test.false _ c.loop-i.invariant.1
