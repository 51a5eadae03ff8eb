-- The reader stands at a place, and the turn says of it what `Gone` says: every line that was passed is UTF-8 and does not begin LOCUS.
use Rattle.std.proofs.Common.{◌≡◌}
use Rattle.read_preamble.specs.Skips.{Gone}
use Rattle.read_preamble.proofs.Laws.{left}
use Rattle.read_preamble.proofs.preamble_at.Given as goal

abbrev pub invariant-loop-turn : goal.invariant-loop-turn
invariant-loop-turn l = (l.reader.input.now ≡ l.s) × Gone l.s l.at l.reader.place l.turn

abbrev pub decreases-loop-turn : goal.decreases-loop-turn
decreases-loop-turn l = left l.s l.reader.place l.turn
