-- A turn for each row: what is left to put are the rows from here on.
use Rattle.std.proofs.Common.{◌-◌, ◌≤◌, ◌≡◌, length, take, drop}
use Rattle.base_pen.specs.Pen.{Left}
use Rattle.base_rows.specs.Rows.{flat}
use Rattle.test_rows.proofs.put_rows.Given as goal

abbrev pub invariant-loop-i : goal.invariant-loop-i
invariant-loop-i l = (l.i ≤ l.n) × (length l.features ≡ length l.initial.features) × Left l.initial.features 0 (flat (take l.n l.rows)) l.features l.at (flat (drop l.i (take l.n l.rows)))

abbrev pub decreases-loop-i : goal.decreases-loop-i
decreases-loop-i l = l.n - l.i
