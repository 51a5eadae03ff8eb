-- What is left to write are the rows from row i on; the measure is how many they are.
use Rattle.std.proofs.Common.{◌-◌, ◌≤◌, length, ◌≡◌}
use Rattle.spec_format.specs.Bytes.{each}
use Rattle.spec_format.specs.Rooms.{rows_from, reference_in}
use Rattle.spec_format.specs.Write.{reference_lines}
use Rattle.base_pen.specs.Pen.{Left}
use Rattle.judge_rooms.specs.Parts.{reference_rooms}
use Rattle.write_header.proofs.put_references.Given as goal

abbrev pub invariant-loop-i : goal.invariant-loop-i
invariant-loop-i l = (l.i ≤ l.n) × (length l.out ≡ length l.initial.out) × Left l.initial.out l.at (each (reference_lines l.width) (rows_from (reference_in (reference_rooms l.texts l.references)) 14 0 l.n)) l.out l.p (each (reference_lines l.width) (rows_from (reference_in (reference_rooms l.texts l.references)) 14 l.i (l.n - l.i)))

abbrev pub decreases-loop-i : goal.decreases-loop-i
decreases-loop-i l = l.n - l.i
