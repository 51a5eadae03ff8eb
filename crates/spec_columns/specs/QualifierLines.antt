-- A qualifier stands from column 22 on and goes on there: one without a value, one broken at commas, a bare one, and one in quotes, which is presented as the
-- INSDC feature table presents a value: inner quotes doubled, over lines that are the value's own but for one space or LF that a break may leave out.
use Rattle.std.specs.Prelude.{ℕ, ◌+◌, Bool, true, ◌≡◌, refl, List, [], ◌∷◌, ◌++◌}
use Rattle.std.proofs.Common.{append_assoc}
use Rattle.spec_format.specs.Bytes.{absent, bytes, spaces}
use Rattle.spec_format.specs.Write.{key_text, qualifier_text}
use Rattle.spec_public.specs.Public.{qualifier_columns, doubled}
use Rattle.spec_columns.specs.Tests.{both}
use Rattle.spec_columns.specs.Parts.{blank_start, rest_start}
use Rattle.spec_columns.specs.Lines.{ended}

abbrev pub value_text : List ℕ → List ℕ → List ℕ
value_text k text = bytes "/" ++ k ++ bytes "=" ++ text

-- `/`, the key, `=` and the text stand in the line from column 22 on
abbrev pub value_columns : List ℕ → List ℕ → List ℕ → Bool
value_columns k text line = qualifier_columns (value_text k text) line

pub at_22 : (text line : List ℕ) → line ≡ spaces 21 ++ text → qualifier_columns text line ≡ true
at_22 text line e = rw e (both _ _ (blank_start 21 21 text refl) (both _ _ (rest_start 22 (spaces 21) text refl) refl))

-- without a value: `/` and the key from column 22 on, and nothing else
pub alone_columns :
    (W : ℕ) (k : List ℕ) → (line : List ℕ) × (qualifier_text W k absent ≡ ended line) × (qualifier_columns (bytes "/" ++ k) line ≡ true)
alone_columns W k = (key_text k, refl, at_22 (bytes "/" ++ k) (key_text k) (append_assoc (spaces 21) (bytes "/") k))

-- ---- in quotes

-- the lines of a presentation, with the quote that closes the last
abbrev pub closed_line : List ℕ → List (List ℕ) → List ℕ
closed_line l [] = doubled l ++ 34 ∷ []
closed_line l (m ∷ ms) = doubled l

abbrev pub closed_lines : List (List ℕ) → List (List ℕ)
closed_lines [] = []
closed_lines (m ∷ ms) = closed_line m ms ∷ closed_lines ms
