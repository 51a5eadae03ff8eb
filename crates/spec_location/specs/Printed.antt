-- Where a location can stand in a text: what may follow it.
use Prim.Native.Nat.{ℕ}
use mathlib.Core.List.{List, [], ◌∷◌}

-- ---- what can follow a location: nothing, a comma or a closing bracket

pub data Follows : List ℕ → Type 0 where
  nothing : Follows []
  comma : (s : List ℕ) → Follows (44 ∷ s)
  bracket : (s : List ℕ) → Follows (41 ∷ s)
