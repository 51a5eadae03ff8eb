-- `scan_utf8::ascii_in` meets its contract. Assumes nothing.
use Rattle.std.proofs.Common.{◌-◌, ◌≤◌, ◌≡◌}
use Rattle.scan_utf8.specs.States.{ascii}
use Rattle.spec_format.specs.Bytes.{all}
use Rattle.scan_bytes.specs.Places.{part}
use Rattle.scan_utf8.proofs.ascii_in.Given as goal

abbrev pub invariant-loop-i : goal.invariant-loop-i
invariant-loop-i l = (l.from ≤ l.i) × (l.i ≤ l.to) × (l.ok ≡ all ascii (part l.from l.i l.s))

abbrev pub decreases-loop-i : goal.decreases-loop-i
decreases-loop-i l = l.to - l.i
