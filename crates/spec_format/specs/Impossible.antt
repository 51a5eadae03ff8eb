-- What cannot be. Where two facts contradict each other `cc` finds 0 ≡ 1, and from that anything follows.
use Rattle.std.specs.Prelude.{ℕ, ◌≡◌}
use Rattle.std.proofs.Common.{arith}

pub impossible : {B : Type 0} → ◌≡◌ {A = ℕ} 0 1 → B
impossible z = absurd (omega arith)
