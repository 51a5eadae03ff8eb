-- `scan_location_bytes::byte_in_lines` meets its contract. Assumes nothing.
use Rattle.std.proofs.Common.{◌-◌, length}
use Rattle.scan_location_bytes.proofs.Lines.{Same}
use Rattle.scan_location_bytes.proofs.byte_in_lines.Given as goal

abbrev pub invariant-loop-i : goal.invariant-loop-i
invariant-loop-i l = Same l.contig l.indent l.s l.at l.i

abbrev pub decreases-loop-i : goal.decreases-loop-i
decreases-loop-i l = length l.s - l.i
