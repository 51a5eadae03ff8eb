-- All references, or all comments, put into two rooms at once.
use Rattle.std.specs.Prelude.{ℕ, ◌≡◌, List}
use Rattle.std.proofs.lemmas.List.Edits.{sets}
use Rattle.spec_format.specs.Rooms.{Piece, texts_of, rows_of}
use Rattle.base_pen.specs.Pen.{Wrote}
use Rattle.read_field_row.specs.declared.Pens.{Pens}

-- from a place of the texts and from the first row on
abbrev pub begun : ℕ → Pens
begun place = record { text = place; row = 0 }

-- rows with their texts, from a place of the texts and from the first row on
pub record Laid {A : Type 0} (f : A → List Piece) (t r : List ℕ) (place : ℕ) (xs : List A) (u v : List ℕ) (next : ℕ) : Type 0 where
  pub texts : Wrote t place (texts_of f xs) u next
  pub rows : v ≡ sets r 0 (rows_of f place xs)
