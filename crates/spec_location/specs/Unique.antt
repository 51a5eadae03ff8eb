-- What it is that a proper tree prints a text: proofs/Unique.antt proves that a text is read exactly if one does, with 16 words open at most.
use Rattle.std.specs.Prelude.{ℕ, ◌≤◌, Bool, true, ◌≡◌, List}
use Rattle.spec_format.specs.Table.{LocationRow}
use Rattle.spec_location.specs.Grammar.{Tree, printed, rows_at, proper, nested}

pub record PrintedBy (gaps : Bool) (x : List ℕ) (rows : List LocationRow) : Type 0 where
  pub tree : Tree
  pub text : printed tree ≡ x
  pub fine : proper gaps tree ≡ true
  pub depth : nested tree ≤ 16
  pub rows_are : rows ≡ rows_at 0 tree
