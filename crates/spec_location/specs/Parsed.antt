-- That what is read is what a proper tree prints, as proofs/Parsed.antt proves it.
use Prim.Native.Nat.{ℕ, ◌+◌, ◌≤◌}
use Rattle.std.specs.Prelude.{Bool, true, ◌≡◌}
use mathlib.Core.List.{List, ◌++◌}
use Rattle.std.proofs.Math.ListN.{length}
use Rattle.spec_format.specs.Bytes.{is}
use Rattle.spec_format.specs.Table.{LocationRow}
use Rattle.spec_location.specs.Grammar.{Tree, printed}
use Rattle.spec_location.specs.Grammar.{rows_at, proper, nested}

-- ---- what was read of a location, and the tree that prints it

pub record Parsed (gaps : Bool) (n left : ℕ) (s : List ℕ) (rows : List LocationRow) (r : List ℕ) : Type 0 where
  pub tree : Tree
  pub is : s ≡ printed tree ++ r
  pub fine : proper gaps tree ≡ true
  pub depth : nested tree ≤ left
  pub rows_are : (at : ℕ) → n ≡ at + length s → rows ≡ rows_at at tree
