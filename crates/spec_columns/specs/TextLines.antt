-- What it is that lines present a text, in quotes or not: they are its own but for one space or LF that a break may leave out. The written ones do: proofs/TextLines.antt.
use Rattle.std.specs.Prelude.{ℕ, ◌+◌, Bool, true, ◌≡◌, List, [], ◌∷◌, ◌++◌}
use Rattle.spec_format.specs.Bytes.{pick, all, but}
use Rattle.spec_public.specs.Public.{doubled, presented_lines}
use Rattle.spec_columns.specs.Lines.{text_lines}

-- a line holds no LF
abbrev pub one_line : List ℕ → Bool
one_line l = all (but 10) l

-- the text v is the line l and then r, with one space or LF between them at most
pub data Split (v l r : List ℕ) : Type 0 where
  next : one_line l ≡ true → v ≡ l ++ r → Split v l r
  space : one_line l ≡ true → v ≡ l ++ 32 ∷ r → Split v l r
  feed : one_line l ≡ true → v ≡ l ++ 10 ∷ r → Split v l r

-- the text v over lines; where it stands in quotes, the closing quote may have a line of its own
pub data Presents : Bool → List ℕ → List ℕ → List (List ℕ) → Type 0 where
  last : (q : Bool) (v l : List ℕ) → Split v l [] → Presents q v l []
  own : (v l : List ℕ) → Split v l [] → Presents true v l ([] ∷ [])
  more : (q : Bool) (v l r m : List ℕ) (ms : List (List ℕ)) → Split v l r → Presents q r m ms → Presents q v l (m ∷ ms)

-- ---- a line

-- q: inner quotes are doubled
abbrev pub quoted_by : Bool → List ℕ → List ℕ
quoted_by q l = pick q (doubled l) l

-- ---- the lines

-- as the writer puts them: up to the closing quote, or as they are
abbrev pub lines_by : Bool → ℕ → List ℕ → List (List ℕ) → List ℕ
lines_by q indent l ms = pick q (presented_lines indent l ms) (text_lines indent l ms)

-- the lines in which what is written presents v
pub record Presentation (q : Bool) (indent : ℕ) (v written : List ℕ) : Type 0 where
  pub line : List ℕ
  pub lines : List (List ℕ)
  pub is : written ≡ lines_by q indent line lines
  pub presents : Presents q v line lines
