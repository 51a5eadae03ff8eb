-- `write_origin::put_lines` meets its contract.
use Rattle.std.proofs.Common.{◌+◌, ◌-◌, ◌*◌, ◌≤◌, ◌≡◌, length, drop}
use Rattle.spec_format.specs.Write.{letter_lines}
use Rattle.base_pen.specs.Pen.{Left}
use Rattle.write_origin.proofs.put_lines.Given as goal

abbrev pub invariant-loop-i : goal.invariant-loop-i
invariant-loop-i l =
    (l.i ≡ 60 * l.k) × (l.p ≡ l.at + 76 * l.k) × (l.i ≤ length l.letters) × (l.p ≤ length l.initial.out) × (length l.out ≡ length l.initial.out)
    × Left l.initial.out l.at (letter_lines 0 l.letters) l.out l.p (letter_lines l.i (drop l.i l.letters))

abbrev pub decreases-loop-i : goal.decreases-loop-i
decreases-loop-i l = length l.letters - l.i
