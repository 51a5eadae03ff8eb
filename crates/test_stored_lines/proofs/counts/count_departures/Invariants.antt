-- A turn for each departure.
use Rattle.std.proofs.Common.{◌-◌}
use Rattle.test_stored_lines.proofs.counts.count_departures.Given as goal

abbrev pub decreases-loop-i : goal.decreases-loop-i
decreases-loop-i l = l.n - l.i
