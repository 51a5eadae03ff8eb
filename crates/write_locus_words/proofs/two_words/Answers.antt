-- The goals of `two_words` that are answered by hand; what its loop keeps, and what falls, is in Invariants.antt.
use Rattle.std.proofs.Common.{◌-◌, refl, sym, rules}
use Rattle.write_locus_words.proofs.Laws.{two_turn, two_yes, two_end}
use Rattle.write_locus_words.specs.Words.{two_all}
use Rattle.write_locus_words.proofs.two_words.Goals as goal

pub loop-i-init : goal.loop-i-init
loop-i-init c = (search rules, sym (two_all c.args.name.now))

pub returns-then-begins_second : goal.returns-then-begins_second
returns-then-begins_second c =
    let c4 = c in
    let c5 = c4 in
    let c6 = c5 in
    let c8 = c6 in
    let loop = c6.loop-i in
    let white = c4.white_from-w in
    let shown = c.shown_byte-b in
    two_yes c8.args.name.now loop.i loop.white white.result shown.result (white.result - 1) c5.loop-i-test.true white.ensures shown.ensures refl
    _ _ loop.place loop.invariant.1 c.begins_second.ensures c.if-begins_second.true

pub loop-i-preserved : goal.loop-i-preserved
loop-i-preserved c =
    let c3 = c in
    let c4 = c3 in
    let c6 = c4 in
    let c7 = c6 in
    let c8 = c7 in
    let c10 = c8 in
    let loop = c8.loop-i in
    let white = c6.white_from-w in
    let shown = c4.shown_byte-b in
    let place = c.next_place-place in (
      search rules,
      two_turn c10.args.name.now loop.i loop.white white.result shown.result c.left_of-white.result c7.loop-i-test.true white.ensures shown.ensures
          c.left_of-white.ensures _ _ loop.place loop.invariant.1 c3.begins_second.ensures place.result c.if-begins_second.false place.ensures,
    )

pub returns : goal.returns
returns c = two_end c.args.name.now c.loop-i.i c.loop-i.white c.loop-i-test.false _ c.loop-i.place c.loop-i.invariant.1
