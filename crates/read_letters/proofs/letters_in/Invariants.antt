-- `read_letters::letters_in` meets its contract. Assumes nothing.
use Rattle.std.proofs.Common.{◌-◌, ◌≤◌, ◌≡◌}
use Rattle.spec_format.specs.Bytes.{letter}
use Rattle.read_letters.specs.Runs.{count_in}
use Rattle.read_letters.proofs.letters_in.Given as goal

abbrev pub invariant-loop-j : goal.invariant-loop-j
invariant-loop-j l = (l.j ≤ 65) × (l.n ≤ l.j) × (l.n ≡ count_in letter l.s l.at l.j)

abbrev pub decreases-loop-j : goal.decreases-loop-j
decreases-loop-j l = 65 - l.j
