-- Rows of features as structs: what storing one means, and the flat numbers, eight to a row, that they stand for.
use Rattle.std.specs.Prelude.{ℕ, ◌≡◌, Bool, List, [], ◌∷◌, ◌++◌, ltb, length, set}
use Rattle.base_rows.specs.declared.Feature.{Feature}

-- `set` past the end changes nothing
pub record Stored (old : List Feature) (i : ℕ) (row : Feature) (new : List Feature) (r : Bool) : Type 0 where
  pub is : r ≡ ltb i (length old)
  pub rows : new ≡ set old i row

-- ---- the flat numbers of rows, as crates/spec_format has them

abbrev pub numbers : Feature → List ℕ
numbers f = f.kind.start ∷ f.kind.length ∷ f.location.start ∷ f.location.length ∷ f.first ∷ f.count ∷ f.row ∷ f.rows ∷ []

unfoldable pub flat : List Feature → List ℕ
flat [] = []
flat (f ∷ fs) = numbers f ++ flat fs
