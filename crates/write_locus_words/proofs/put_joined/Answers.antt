-- The goals of `put_joined` that are answered by hand; what its loop keeps, and what falls, is in Invariants.antt.
use Rattle.std.proofs.Common.{◌-◌, sym, rules}
use Rattle.write_locus_words.proofs.Laws.{put_turn, put_end}
use Rattle.base_pen.specs.Pen.{left_as, left_start}
use Rattle.write_locus_words.specs.Words.{words_all}
use Rattle.write_locus_words.proofs.put_joined.Goals as goal

pub loop-i-init : goal.loop-i-init
loop-i-init c = (search rules, search rules, left_as (sym (words_all c.args.name.now)) left_start)

pub loop-i-preserved : goal.loop-i-preserved
loop-i-preserved c =
    let c4 = c in
    let c6 = c4 in
    let c8 = c6 in
    let c9 = c8 in
    let c10 = c9 in
    let c13 = c10 in
    let loop = c10.loop-i in
    let white = c8.white_from-w in
    let shown = c6.shown_byte-b in
    let place = c.next_place-place in (
      search rules,
      search rules,
      put_turn c13.args.name.now loop.i loop.white white.result shown.result c.left_of-white.result c9.loop-i-test.true white.ensures shown.ensures
          c.left_of-white.ensures _ _ _ _ _ _ _ loop.place place.result loop.invariant.2 c4.put_next-p.ensures place.ensures,
    )

pub returns : goal.returns
returns c =
    put_end c.args.name.now c.loop-i.i c.loop-i.white c.loop-i-test.false _ _ _ _ _ c.loop-i.place c.loop-i.invariant.2
