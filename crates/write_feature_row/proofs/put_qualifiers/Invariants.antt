-- What is left to write are the rows from row i on; the measure is how many they are.
use Rattle.std.proofs.Common.{◌-◌, ◌≤◌, length, ◌≡◌}
use Rattle.spec_format.specs.Bytes.{each}
use Rattle.spec_format.specs.Rooms.{rows_from, qualifier_in}
use Rattle.spec_format.specs.Write.{qualifier_lines}
use Rattle.base_pen.specs.Pen.{Left}
use Rattle.judge_rooms.specs.Parts.{qualifier_rooms}
use Rattle.write_feature_row.proofs.put_qualifiers.Given as goal

abbrev pub invariant-loop-i : goal.invariant-loop-i
invariant-loop-i l = (l.first ≤ l.i) × (l.i ≤ l.end) × (length l.out ≡ length l.initial.out) × Left l.initial.out l.at (each (qualifier_lines l.width) (rows_from (qualifier_in (qualifier_rooms l.texts l.qualifiers)) 4 l.first (l.end - l.first))) l.out l.p (each (qualifier_lines l.width) (rows_from (qualifier_in (qualifier_rooms l.texts l.qualifiers)) 4 l.i (l.end - l.i)))

abbrev pub decreases-loop-i : goal.decreases-loop-i
decreases-loop-i l = l.end - l.i
