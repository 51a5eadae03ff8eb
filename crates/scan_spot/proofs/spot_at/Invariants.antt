-- The reader stands at a place, and what was sought says of it what `Standing` says: a line begins there, before the place, or the line is found.
use Rattle.std.proofs.Common.{◌≡◌}
use Rattle.scan_spot.specs.Search.{Standing}
use Rattle.scan_spot.proofs.Laws.{left}
use Rattle.scan_spot.proofs.spot_at.Given as goal

abbrev pub invariant-loop-sought : goal.invariant-loop-sought
invariant-loop-sought l = (l.reader.input.now ≡ l.s) × Standing l.s l.at l.place l.reader.place l.sought

abbrev pub decreases-loop-sought : goal.decreases-loop-sought
decreases-loop-sought l = left l.s l.reader.place l.sought
