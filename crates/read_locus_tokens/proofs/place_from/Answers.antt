-- A text is one of three words, or stands where `later` says.
use Rattle.read_locus_tokens.proofs.Placing.{place_first, place_second, place_third, place_none, place_later}
use Rattle.read_locus_tokens.proofs.place_from.Goals as goal

pub returns-then-same_text : goal.returns-then-same_text
returns-then-same_text c = place_first _ _ _ _ _ _ c.same_text.ensures c.if-same_text.true

pub returns-then-same_text-2 : goal.returns-then-same_text-2
returns-then-same_text-2 c =
    place_second _ _ _ _ _ _ c.same_text.ensures _ c.if-same_text.false c.same_text-2.ensures c.if-same_text-2.true

pub returns-then-same_text-3 : goal.returns-then-same_text-3
returns-then-same_text-3 c =
    place_third _ _ _ _ _ _ c.same_text.ensures _ c.if-same_text.false c.same_text-2.ensures _ c.if-same_text-2.false c.same_text-3.ensures c.if-same_text-3.true

pub returns-then-later-eq0 : goal.returns-then-later-eq0
returns-then-later-eq0 c =
    let c2 = c in
    let c4 = c2 in
    let c6 = c4 in
    place_none _ _ _ _ _ _ c6.same_text.ensures _ c4.if-same_text.false c4.same_text-2.ensures _ c2.if-same_text-2.false c2.same_text-3.ensures c.if-same_text-3.false c.if-later-eq0.true

pub returns : goal.returns
returns c =
    let c2 = c in
    let c4 = c2 in
    let c6 = c4 in
    place_later _ _ _ _ _ _ c6.same_text.ensures _ c4.if-same_text.false c4.same_text-2.ensures _ c2.if-same_text-2.false c2.same_text-3.ensures c.if-same_text-3.false c.if-later-eq0.false
