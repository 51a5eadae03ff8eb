-- The goals of `write` that are answered by hand; what its loop keeps, and what falls, is in Invariants.antt.
use Rattle.write_record_turns.specs.Answered.{Asking, asking}
use Rattle.write_record_turns.specs.Turns.{steady, ended_answer}
use Rattle.write_record.proofs.Typed.{length_fits_lem}
use Rattle.write_record.proofs.write.Goals as goal

pub step-next-requires : goal.step-next-requires
step-next-requires c =
    let a = c.args in
    let asked = asking a.texts.now a.references.now a.comments.now a.qualifiers.now a.locations.now a.letters.now a.head a.how in
    steady asked a.rows.now a.out.now c.loop-s.s c.loop-s.out c.fetch_row-fetched.result c.loop-s-test.true c.loop-s.invariant c.fetch_row-fetched.ensures

pub returns : goal.returns
returns c =
    let a = c.args in
    let asked = asking a.texts.now a.references.now a.comments.now a.qualifiers.now a.locations.now a.letters.now a.head a.how in
    -- the head is the ninth parameter, and its LOCUS length the second field
    let long = length_fits_lem a.head.length _ c.well_formed.1.1.1.1.1.1.1.1.0.1.1.1.0 in
    ended_answer asked a.rows.now a.out.now c.loop-s.s c.loop-s.out long c.loop-s-test.false c.loop-s.invariant
