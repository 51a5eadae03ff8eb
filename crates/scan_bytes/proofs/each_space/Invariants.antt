-- `scan_bytes::each_space` meets its contract. Assumes nothing.
use Rattle.std.proofs.Common.{◌≤◌, ◌≡◌, length, drop}
use Rattle.spec_format.specs.Bytes.{spaces}
use Rattle.spec_format.specs.Readers.{tag}
use Rattle.scan_bytes.proofs.each_space.Given as goal

abbrev pub invariant-loop-left : goal.invariant-loop-left
invariant-loop-left l = (l.at ≤ l.i) × (l.i ≤ length l.s) × (tag (spaces l.n) (drop l.at l.s) ≡ tag (spaces l.left) (drop l.i l.s))

abbrev pub decreases-loop-left : goal.decreases-loop-left
decreases-loop-left l = l.left
