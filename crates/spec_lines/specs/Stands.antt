-- What the functions promise that find the place of a trouble: what stands from there on.
use Rattle.std.specs.Prelude.{ℕ, ◌≤◌, ◌≡◌, List, length, drop}

-- t stands in s from the place r on, which is `at` or later
pub record Stands (s : List ℕ) (at : ℕ) (t : List ℕ) (r : ℕ) : Type 0 where
  pub is : drop r s ≡ t
  pub from : at ≤ r
  pub within : r ≤ length s
