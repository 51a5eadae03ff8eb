-- `read_letters::ten_of` meets its contract. Assumes nothing.
use Rattle.std.proofs.Common.{◌-◌, ◌≤◌, ◌≡◌, length, take, drop}
use Rattle.read_letters.proofs.ten_of.Given as goal

abbrev pub invariant-loop-j : goal.invariant-loop-j
invariant-loop-j l = (l.j ≤ 10) × (length l.t ≡ 10) × (take l.j l.t ≡ take l.j (drop l.at l.s))

abbrev pub decreases-loop-j : goal.decreases-loop-j
decreases-loop-j l = 10 - l.j
