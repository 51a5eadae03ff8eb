-- `scan_bytes::tag` meets its contract. Assumes nothing.
use Rattle.std.proofs.Common.{◌-◌, ◌≤◌, ◌≡◌, length, drop}
use Rattle.spec_format.specs.Readers as readers
use Rattle.scan_bytes.proofs.tag.Given as goal

abbrev pub invariant-loop-j : goal.invariant-loop-j
invariant-loop-j l = (l.at ≤ l.i) × (l.i ≤ length l.s) × (l.j ≤ length l.word) × (readers.tag l.word (drop l.at l.s) ≡ readers.tag (drop l.j l.word) (drop l.i l.s))

abbrev pub decreases-loop-j : goal.decreases-loop-j
decreases-loop-j l = length l.word - l.j
