-- `scan_bytes::next_space` meets its contract. Assumes nothing.
use Rattle.std.proofs.Common.{◌-◌, ◌≤◌, ◌≡◌, length}
use Rattle.spec_format.specs.Bytes.{space}
use Rattle.scan_bytes.specs.Places.{scan}
use Rattle.scan_bytes.proofs.next_space.Given as goal

abbrev pub invariant-loop-i : goal.invariant-loop-i
invariant-loop-i l = (l.at ≤ l.i) × (l.i ≤ length l.s) × (scan space l.s l.at ≡ scan space l.s l.i)

abbrev pub decreases-loop-i : goal.decreases-loop-i
decreases-loop-i l = length l.s - l.i
