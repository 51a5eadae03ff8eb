-- What is left to write are the rows from row i on; the measure is how many they are.
use Rattle.std.proofs.Common.{◌-◌, ◌≤◌, length, ◌≡◌}
use Rattle.spec_format.specs.Bytes.{bytes, each}
use Rattle.spec_format.specs.Rooms.{rows_from, comment_in}
use Rattle.spec_format.specs.Write.{field_lines}
use Rattle.base_pen.specs.Pen.{Left}
use Rattle.judge_rooms.specs.Parts.{comment_rooms}
use Rattle.write_header.proofs.put_comments.Given as goal

abbrev pub invariant-loop-i : goal.invariant-loop-i
invariant-loop-i l = (l.i ≤ l.n) × (length l.out ≡ length l.initial.out) × Left l.initial.out l.at (each (field_lines l.width (bytes "COMMENT")) (rows_from (comment_in (comment_rooms l.texts l.comments)) 2 0 l.n)) l.out l.p (each (field_lines l.width (bytes "COMMENT")) (rows_from (comment_in (comment_rooms l.texts l.comments)) 2 l.i (l.n - l.i)))

abbrev pub decreases-loop-i : goal.decreases-loop-i
decreases-loop-i l = l.n - l.i
