-- By the verdict on 11 and 13, and then by the room.
use Rattle.std.proofs.Common.{[]}
use Rattle.write_record_turns.specs.Answered.{asking}
use Rattle.write_record_turns.specs.Deciding.{decide_refused, decide_room, decide_puts}
use Rattle.judge_record.specs.Rest.{rest_known}
use Rattle.judge_rooms.proofs.Facts.{rooms_in_lem}
use Rattle.judge_rooms.specs.Parts.{rest_head}
use Rattle.write_record_parts.specs.Parts.{before_known, after_known}
use Rattle.spec_format.specs.Rooms.{rooms_in}
use Rattle.write_record_turns.proofs.decide.Goals as goal

pub rest_verdict-verdict-requires : goal.rest_verdict-verdict-requires
rest_verdict-verdict-requires c =
    let a = c.args in
    let r = rooms_in a.texts.now a.references.now a.comments.now [] a.qualifiers.now a.locations.now a.letters.now in
    rw c.rest_head-rest.ensures
    (rest_known r (rest_head a.head) (rooms_in_lem r (rest_head a.head) c.requires.0.rooms))

pub put_after-n-requires : goal.put_after-n-requires
put_after-n-requires c =
    let a = c.args in
    after_known a.how.width (rooms_in a.texts.now a.references.now a.comments.now [] a.qualifiers.now a.locations.now a.letters.now) a.head c.requires.0 c.requires.1

pub returns-then-out-n : goal.returns-then-out-n
returns-then-out-n c =
    let a = c.args in
    let ask = asking a.texts.now a.references.now a.comments.now a.qualifiers.now a.locations.now a.letters.now a.head a.how in
    rw c.ended.ensures (decide_room ask a.s a.out.now _ (rw c.rest_head-rest.ensures at c.rest_verdict-verdict.ensures) c.in-Ok.is c.put_after-n.ensures c.if-out-n.true)

pub put_before-at-requires : goal.put_before-at-requires
put_before-at-requires c =
    let a = c.args in
    rw c.rest_head-rest.ensures (before_known a.how.width (rooms_in a.texts.now a.references.now a.comments.now [] a.qualifiers.now a.locations.now a.letters.now) (rest_head a.head)
    c.requires.0)

pub returns-in-Err : goal.returns-in-Err
returns-in-Err c =
    let a = c.args in
    let ask = asking a.texts.now a.references.now a.comments.now a.qualifiers.now a.locations.now a.letters.now a.head a.how in
    rw c.refused.ensures (decide_refused ask a.s a.out.now _ (rw c.rest_head-rest.ensures at c.rest_verdict-verdict.ensures) _ c.in-Err.is)

pub returns-else-out-n : goal.returns-else-out-n
returns-else-out-n c =
    let a = c.args in
    let ask = asking a.texts.now a.references.now a.comments.now a.qualifiers.now a.locations.now a.letters.now a.head a.how in
    rw c.staged.ensures (decide_puts ask a.s a.out.now _ (rw c.rest_head-rest.ensures at c.rest_verdict-verdict.ensures)
    c.in-Ok.is
    c.put_after-n.ensures c.if-out-n.false (rw c.rest_head-rest.ensures at c.put_before-at.ensures))
