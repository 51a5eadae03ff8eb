-- `scan_location_bytes::word_at` meets its contract. Assumes nothing.
use Rattle.std.proofs.Common.{◌-◌, length}
use Rattle.scan_location_bytes.proofs.Words.{Spelling}
use Rattle.scan_location_bytes.proofs.word_at.Given as goal

abbrev pub invariant-loop-j : goal.invariant-loop-j
invariant-loop-j l = Spelling l.laid l.s l.spot l.word l.at l.j

abbrev pub decreases-loop-j : goal.decreases-loop-j
decreases-loop-j l = length l.word - l.j
