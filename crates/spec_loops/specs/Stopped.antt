-- What stands where the last turn of a loop was tried, one turn at a time.
use Prim.Native.Nat.{ℕ}
use Rattle.std.specs.Prelude.{◌≡◌}
use mathlib.Core.List.{List}
use Rattle.spec_format.specs.Readers.{Ans, got, no, cut, Turn, stop}
use Rattle.spec_lines.specs.Troubles.{stopped_up_to, stopped}

module _ {A : Type 0} (turn : List ℕ → Ans (Turn A)) (s : List ℕ) where
  pub stopped_stop : (r : List ℕ) → turn s ≡ got stop r → stopped turn s ≡ s
  unfolding stopped stopped_up_to
  stopped_stop r e = rw (stopped_up_to, e)

  pub stopped_no : turn s ≡ no → stopped turn s ≡ s
  unfolding stopped stopped_up_to
  stopped_no e = rw (stopped_up_to, e)

  pub stopped_cut : turn s ≡ cut → stopped turn s ≡ s
  unfolding stopped stopped_up_to
  stopped_cut e = rw (stopped_up_to, e)
