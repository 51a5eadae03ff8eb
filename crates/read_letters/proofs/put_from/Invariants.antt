-- `read_letters::put_from` meets its contract. The invariant: the answer of the whole is the answer from here. Assumes nothing.
use Rattle.std.proofs.Common.{◌-◌, ◌≤◌, ◌≡◌, length, drop}
use Rattle.read_letters.specs.Runs.{sifted}
use Rattle.base_pen.specs.Pen.{Left}
use Rattle.read_letters.proofs.put_from.Given as goal

abbrev pub invariant-loop-i : goal.invariant-loop-i
invariant-loop-i l = (l.i ≤ length l.s) × (length l.room ≡ length l.initial.room) × Left l.initial.room l.place (sifted (drop l.at l.s)) l.room l.p (sifted (drop l.i l.s))

abbrev pub decreases-loop-i : goal.decreases-loop-i
decreases-loop-i l = length l.s - l.i
