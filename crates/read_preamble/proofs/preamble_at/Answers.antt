-- The goals of `preamble_at` that are answered by hand; what its loop keeps, and what falls, is in Invariants.antt.
use Rattle.read_preamble.proofs.Laws.{gone_answer}
use Rattle.read_preamble.proofs.preamble_at.Goals as goal

pub returns : goal.returns
returns c = gone_answer c.args.s.now c.args.at c.loop-turn.reader.place c.loop-turn.turn c.loop-turn.invariant.1 c.loop-turn-test.false
