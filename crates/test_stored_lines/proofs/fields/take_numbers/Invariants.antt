-- A turn for each byte.
use Rattle.std.proofs.Common.{◌-◌, length}
use Rattle.test_stored_lines.proofs.fields.take_numbers.Given as goal

abbrev pub decreases-loop-i : goal.decreases-loop-i
decreases-loop-i l = length l.s - l.i
