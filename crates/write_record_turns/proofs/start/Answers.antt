-- Numbers 12 and 10 of all but the rows, in that order.
use Rattle.std.proofs.Common.{[]}
use Rattle.write_record_turns.specs.Answered.{asking}
use Rattle.write_record_turns.specs.Judging.{rest_lies, start_width, start_rooms, start_rows, start_begins}
use Rattle.spec_format.specs.Rooms.{rooms_in}
use Rattle.judge_record.specs.Rest.{passed_two}
use Rattle.judge_rooms.specs.Parts.{rest_head}
use Rattle.write_record_parts.specs.Parts.{before_known}
use Rattle.std.proofs.lemmas.Bool.{not_from_false, not_from_true}
use Rattle.write_record_turns.proofs.start.Goals as goal

pub returns-then-not-width_fine : goal.returns-then-not-width_fine
returns-then-not-width_fine c =
    let a = c.args in
    let ask = asking a.texts.now a.references.now a.comments.now a.qualifiers.now a.locations.now a.letters.now a.head a.how in
    rw c.refused.ensures (start_width ask _ c.width_fine.ensures a.rows (not_from_false _ c.if-not-width_fine.true))

pub returns-then-not-rest_fine : goal.returns-then-not-rest_fine
returns-then-not-rest_fine c =
    let a = c.args in
    let ask = asking a.texts.now a.references.now a.comments.now a.qualifiers.now a.locations.now a.letters.now a.head a.how in
    rw c.refused-then-not-rest_fine.ensures (start_rooms ask _ c.width_fine.ensures (not_from_true _ c.if-not-width_fine.false) _ c.rest_fine.ensures a.rows (not_from_false _ c.if-not-rest_fine.true))

pub returns-then-not-both : goal.returns-then-not-both
returns-then-not-both c =
    let a = c.args in
    let ask = asking a.texts.now a.references.now a.comments.now a.qualifiers.now a.locations.now a.letters.now a.head a.how in
    rw c.refused-then-not-both.ensures
    (start_rows ask _ c.width_fine.ensures (not_from_true _ c.if-not-width_fine.false) _ c.rest_fine.ensures (not_from_true _ c.if-not-rest_fine.false) a.rows _ c.both.ensures (not_from_false _ c.if-not-both.true))

pub contig_told-told-requires : goal.contig_told-told-requires
contig_told-told-requires c =
    let a = c.args in
    let k = rest_lies a.texts.now a.references.now a.comments.now a.qualifiers.now a.locations.now a.letters.now a.head _ c.rest_fine.ensures (not_from_true _ c.if-not-rest_fine.false) in
    (k.lengths.texts, k.lengths.locations)

pub begin-requires : goal.begin-requires
begin-requires c =
    let a = c.args in
    let r = rooms_in a.texts.now a.references.now a.comments.now [] a.qualifiers.now a.locations.now a.letters.now in
    before_known a.how.width r (rest_head a.head)
    (passed_two a.how.width r (rest_head a.head) _ _ c.width_fine.ensures (not_from_true _ c.if-not-width_fine.false) c.rest_fine.ensures (not_from_true _ c.if-not-rest_fine.false))

pub returns : goal.returns
returns c =
    let a = c.args in
    let ask = asking a.texts.now a.references.now a.comments.now a.qualifiers.now a.locations.now a.letters.now a.head a.how in
    start_begins ask _ c.width_fine.ensures (not_from_true _ c.if-not-width_fine.false) _ c.rest_fine.ensures (not_from_true _ c.if-not-rest_fine.false) a.rows _
    c.both.ensures _ _ (not_from_true _ c.if-not-both.false)
    c.contig_told-told.ensures c.begin.ensures
