-- A turn for each row: the rows before here are those of the room.
use Rattle.std.proofs.Common.{◌-◌, ◌*◌, ◌≤◌, ◌≡◌, length, take}
use Rattle.base_rows.specs.Rows.{flat}
use Rattle.test_rows.proofs.rows_of.Given as goal

abbrev pub invariant-loop-i : goal.invariant-loop-i
invariant-loop-i l = (l.i ≤ l.n) × (length l.rows ≡ 33) × (flat (take l.i l.rows) ≡ take (8 * l.i) l.features)

abbrev pub decreases-loop-i : goal.decreases-loop-i
decreases-loop-i l = l.n - l.i
