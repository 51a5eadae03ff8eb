-- `read_feature_names::all_visible` meets its contract. The invariant: the answer of the whole is the answer from here. Assumes nothing.
use Rattle.std.proofs.Common.{◌-◌, ◌≤◌, ◌≡◌}
use Rattle.scan_bytes.specs.Places.{part}
use Rattle.spec_format.specs.Bytes.{all, visible}
use Rattle.read_feature_names.proofs.all_visible.Given as goal

abbrev pub invariant-loop-i : goal.invariant-loop-i
invariant-loop-i l = (l.i ≤ l.to) × (all visible (part l.from l.to l.s) ≡ all visible (part l.i l.to l.s))

abbrev pub decreases-loop-i : goal.decreases-loop-i
decreases-loop-i l = l.to - l.i
