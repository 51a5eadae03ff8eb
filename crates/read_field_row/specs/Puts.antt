-- Pieces put into two rooms at once: their texts, and their rows of two numbers each.
use Rattle.std.specs.Prelude.{ℕ, ◌+◌, ◌<◌, ◌^◌, ◌≡◌, List, [], ◌∷◌, length}
use Rattle.std.proofs.lemmas.List.Edits.{sets}
use Rattle.spec_format.specs.Rooms.{Piece, piece_text, pieces_text, pieces_row}
use Rattle.read_field_row.specs.declared.Pens.{Pens}

-- how many bytes pieces have, and how many numbers
abbrev pub bytes_of : List Piece → ℕ
bytes_of [] = 0
bytes_of (p ∷ ps) = length (piece_text p) + bytes_of ps

abbrev pub numbers_of : List Piece → ℕ
numbers_of [] = 0
numbers_of (p ∷ ps) = 2 + numbers_of ps

-- the places after them are ones that a usize can hold
pub record Room (pens : Pens) (ps : List Piece) : Type 0 where
  pub text : pens.text + bytes_of ps < 2 ^ 64
  pub row : pens.row + numbers_of ps < 2 ^ 64

-- texts t and rows r became u and v, and the pens moved on
pub record Puts (t r : List ℕ) (pens : Pens) (ps : List Piece) (u v : List ℕ) (to : Pens) : Type 0 where
  pub texts : u ≡ sets t pens.text (pieces_text ps)
  pub rows : v ≡ sets r pens.row (pieces_row pens.text ps)
  pub text : to.text ≡ pens.text + bytes_of ps
  pub row : to.row ≡ pens.row + numbers_of ps

-- the same of one text, with the number n behind its start
pub record Texted (t r : List ℕ) (pens : Pens) (text : List ℕ) (n : ℕ) (u v : List ℕ) (to : Pens) : Type 0 where
  pub texts : u ≡ sets t pens.text text
  pub rows : v ≡ sets r pens.row (pens.text ∷ n ∷ [])
  pub next : to.text ≡ pens.text + length text
  pub row : to.row ≡ pens.row + 2
