-- `write_origin::put_tens` meets its contract.
use Rattle.std.proofs.Common.{◌≡◌, ◌-◌, ◌%◌, ◌≤◌, ◌<◌, length, drop}
use Rattle.base_pen.specs.Pen.{Left}
use Rattle.spec_format.specs.Write.{letter_lines}
use Rattle.write_origin.proofs.put_tens.Given as goal

abbrev pub invariant-loop-i : goal.invariant-loop-i
invariant-loop-i l =
    (l.i ≤ length l.letters) × (l.i < length l.letters → l.i % 10 ≡ 0) × (length l.out ≡ length l.initial.out)
    × Left l.initial.out l.at (letter_lines l.from (drop l.from l.letters)) l.out l.p (letter_lines l.i (drop l.i l.letters))

abbrev pub decreases-loop-i : goal.decreases-loop-i
decreases-loop-i l = length l.letters - l.i
