-- By whether a row is left, and whether rows are put.
use Rattle.std.proofs.Common.{[], refl}
use Rattle.write_record_turns.specs.Answered.{asking}
use Rattle.write_record_turns.specs.Turns.{step_judges, step_puts, step_decides, step_ends}
use Rattle.judge_rooms.proofs.Facts.{rooms_in_lem}
use Rattle.judge_rooms.specs.Parts.{rest_head}
use Rattle.write_record_parts.specs.Parts.{after_known}
use Rattle.spec_format.specs.Rooms.{rooms_in}
use Rattle.write_record_turns.proofs.step.Goals as goal

pub put_fetched-requires : goal.put_fetched-requires
put_fetched-requires c =
    let pre = c.requires in
    (pre.row c.if-s.true c.if-s-head.true, pre.passed.narrowest, pre.passed.widest, pre.few)

pub returns-then-s : goal.returns-then-s
returns-then-s c =
    let a = c.args in
    let ask = asking a.texts.now a.references.now a.comments.now a.qualifiers.now a.locations.now a.letters.now a.head a.how in
    step_puts ask a.s a.fetched a.out.now _ _ c.if-s-head.true c.if-s.true c.put_fetched.ensures

pub judge_fetched-requires : goal.judge_fetched-requires
judge_fetched-requires c =
    let pre = c.requires in
    let a = c.args in
    let k = rooms_in_lem (rooms_in a.texts.now a.references.now a.comments.now [] a.qualifiers.now a.locations.now a.letters.now) (rest_head a.head) pre.passed.rooms in
    (record { texts = k.lengths.texts; locations = k.lengths.locations }, pre.passed.narrowest, pre.passed.widest, pre.few)

pub returns-then-s-head : goal.returns-then-s-head
returns-then-s-head c =
    let a = c.args in
    let ask = asking a.texts.now a.references.now a.comments.now a.qualifiers.now a.locations.now a.letters.now a.head a.how in
    step_judges ask a.s a.fetched a.out.now _ _ c.if-s-head.true c.if-s.false refl c.judge_fetched.ensures

pub end-requires : goal.end-requires
end-requires c =
    let pre = c.requires in
    let a = c.args in
    after_known a.how.width (rooms_in a.texts.now a.references.now a.comments.now [] a.qualifiers.now a.locations.now a.letters.now) a.head pre.passed pre.contig

pub returns-then-s-2 : goal.returns-then-s-2
returns-then-s-2 c =
    let a = c.args in
    let ask = asking a.texts.now a.references.now a.comments.now a.qualifiers.now a.locations.now a.letters.now a.head a.how in
    step_ends ask a.s a.fetched a.out.now _ _ c.if-s-head.false c.if-s-2.true c.end.ensures

pub decide-requires : goal.decide-requires
decide-requires c = (c.requires.passed, c.requires.contig)

pub returns : goal.returns
returns c =
    let a = c.args in
    let ask = asking a.texts.now a.references.now a.comments.now a.qualifiers.now a.locations.now a.letters.now a.head a.how in
    step_decides ask a.s a.fetched a.out.now _ _ c.if-s-head.false c.if-s-2.false c.decide.ensures
