-- The text of an answer that has one.
use Rattle.std.specs.Prelude.{ℕ, List, []}
use Rattle.spec_format.specs.Readers.{Ans, got, no, cut}

abbrev pub text_in : Ans (List ℕ) → List ℕ
text_in (got t r) = t
text_in no = []
text_in cut = []

-- there is one
abbrev pub Gets : Ans (List ℕ) → Type 0
Gets (got t r) = Unit
Gets no = ⊥
Gets cut = ⊥
