-- `read_letters::count_letters` meets its contract. The invariant: the answer of the whole is the answer from here. Assumes nothing.
use Rattle.std.proofs.Common.{◌+◌, ◌-◌, ◌≤◌, ◌≡◌, length, drop}
use Rattle.read_letters.specs.Runs.{letters_by, tally, plus}
use Rattle.read_letters.proofs.count_letters.Given as goal

abbrev pub invariant-loop-i : goal.invariant-loop-i
invariant-loop-i l = (l.at ≤ l.i) × (l.i ≤ length l.s) × (l.k + l.at ≤ l.i) × (tally (letters_by l.strict (drop l.at l.s)) ≡ plus l.k (tally (letters_by l.strict (drop l.i l.s))))

abbrev pub decreases-loop-i : goal.decreases-loop-i
decreases-loop-i l = length l.s - l.i
