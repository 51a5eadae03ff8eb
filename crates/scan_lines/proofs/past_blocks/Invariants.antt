-- `scan_lines::past_blocks`: no LF stands before the place reached. Assumes nothing.
use Rattle.std.proofs.Common.{◌-◌, ◌≤◌, ◌≡◌, length, drop}
use Rattle.scan_lines.specs.Reached.{after_feed}
use Rattle.scan_lines.proofs.past_blocks.Given as goal

abbrev pub invariant-loop-i : goal.invariant-loop-i
invariant-loop-i l = (l.place ≤ l.i) × (l.i ≤ length l.input) × (after_feed (drop l.place l.input) ≡ after_feed (drop l.i l.input))

abbrev pub decreases-loop-i : goal.decreases-loop-i
decreases-loop-i l = length l.input - l.i
