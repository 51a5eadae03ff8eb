-- A test of each number below a bound, and one that only what has a code must pass.
use Rattle.std.specs.Prelude.{ℕ, zero, suc, Bool, true, false, ◌&&◌}

abbrev pub below : ℕ → (ℕ → Bool) → Bool
below zero f = true
below (suc n) f = f n && below n f

abbrev pub implied : Bool → Bool → Bool
implied true x = x
implied false x = true
