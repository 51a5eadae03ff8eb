-- `scan_bytes::spaces_end` meets its contract. Assumes nothing.
use Rattle.std.proofs.Common.{◌-◌, ◌≤◌, ◌≡◌, length}
use Rattle.spec_format.specs.Bytes.{but}
use Rattle.scan_bytes.specs.Places.{scan}
use Rattle.scan_bytes.proofs.spaces_end.Given as goal

abbrev pub invariant-loop-i : goal.invariant-loop-i
invariant-loop-i l = (l.at ≤ l.i) × (l.i ≤ length l.s) × (scan (but 32) l.s l.at ≡ scan (but 32) l.s l.i)

abbrev pub decreases-loop-i : goal.decreases-loop-i
decreases-loop-i l = length l.s - l.i
