-- A turn for each number.
use Rattle.std.proofs.Common.{◌-◌}
use Rattle.test_stored_lines.proofs.fields.among.Given as goal

abbrev pub decreases-loop-i : goal.decreases-loop-i
decreases-loop-i l = l.n - l.i
