-- `scan_location_bytes::past_run` meets its contract. Assumes nothing.
use Rattle.std.proofs.Common.{◌-◌, length}
use Rattle.scan_location_bytes.specs.Views.{in_class}
use Rattle.scan_location_bytes.specs.Spots.{spot}
use Rattle.scan_location_bytes.proofs.Words.{Running}
use Rattle.scan_location_bytes.proofs.past_run.Given as goal

abbrev pub invariant-loop-byte : goal.invariant-loop-byte
invariant-loop-byte l = Running (in_class l.class) l.laid l.s (spot l.initial.at l.initial.off) l.at l.off

abbrev pub decreases-loop-byte : goal.decreases-loop-byte
decreases-loop-byte l = length l.s - l.at
