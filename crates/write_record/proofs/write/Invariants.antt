-- The turns so far are held: what `Held` says of the state and of what was put out.
use Rattle.write_record_turns.specs.Answered.{Asking, asking}
use Rattle.write_record_turns.specs.States.{Held, turns_left}
use Rattle.write_record.proofs.write.Given as goal

abbrev pub invariant-loop-s : goal.invariant-loop-s
invariant-loop-s l = Held (asking l.texts l.references l.comments l.qualifiers l.locations l.letters l.head l.how) l.rows l.initial.out l.s l.out

abbrev pub decreases-loop-s : goal.decreases-loop-s
decreases-loop-s l = turns_left l.head.features l.s
