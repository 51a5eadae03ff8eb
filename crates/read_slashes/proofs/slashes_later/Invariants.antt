-- The reader stands at a place, and what was seen says of it what `Later` says: the answer is that from there on, or it is clear.
use Rattle.std.proofs.Common.{◌≡◌}
use Rattle.read_slashes.proofs.Laws.{Later, left}
use Rattle.read_slashes.proofs.slashes_later.Given as goal

abbrev pub invariant-loop-seen : goal.invariant-loop-seen
invariant-loop-seen l = (l.reader.input.now ≡ l.s) × Later l.s l.at l.reader.place l.seen

abbrev pub decreases-loop-seen : goal.decreases-loop-seen
decreases-loop-seen l = left l.s l.reader.place l.seen
