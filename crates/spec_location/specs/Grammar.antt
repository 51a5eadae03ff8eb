-- What a location is (document 02, ticket 1), as a grammar: a tree, how it is printed, and its rows. proofs/Unique.antt proves that a text is read exactly if a
-- proper tree of 16 open words at most prints it, and that it is read as that tree's rows.
use Rattle.std.specs.Prelude.{ℕ, suc, ◌+◌, max, Bool, true, false, ◌&&◌, ◌≡◌, refl, List, [], ◌∷◌, ◌++◌, length, leb}
use Rattle.spec_format.specs.Bytes.{pick, May, absent, is, bytes, some, all, digit, digits, decimal}
use Rattle.spec_format.specs.Table.{LocationRow}
use Rattle.spec_format.specs.Location.{leaf_row, in_accession, in_gap, gap_row, word_row}

-- ---- trees

-- "a base number n; n..m with `<` allowed before the first and `>` before the second; n^m"
pub data Bases : Type 0 where
  base : ℕ → Bases
  range : Bool → ℕ → Bool → ℕ → Bases
  between : ℕ → ℕ → Bases

-- "an accession, a dot, digits and a colon before any of these"
pub record Accession : Type 0 where
  pub name : List ℕ
  pub version : List ℕ

-- "complement( ) of one location; join( ) and order( ) of one or more"; in CONTIG "gap( ) with no bracket inside .. too, as text"
mutual
  pub data Tree : Type 0 where
    leaf : May Accession → Bases → Tree
    gap : List ℕ → Tree
    complement : Tree → Tree
    join : Trees → Tree
    order : Trees → Tree

  pub data Trees : Type 0 where
    last : Tree → Trees
    before : Tree → Trees → Trees

-- ---- the text of a tree

abbrev pub bases_text : Bases → List ℕ
bases_text (base n) = decimal n
bases_text (range less n more m) = pick less (bytes "<") [] ++ (decimal n ++ (bytes ".." ++ (pick more (bytes ">") [] ++ decimal m)))
bases_text (between n m) = decimal n ++ (bytes "^" ++ decimal m)

-- an accession with its version
abbrev pub accession_text : Accession → List ℕ
accession_text a = a.name ++ (bytes "." ++ a.version)

abbrev pub leaf_text : May Accession → Bases → List ℕ
leaf_text absent b = bases_text b
leaf_text (is a) b = accession_text a ++ (bytes ":" ++ bases_text b)

unfoldable mutual
  pub printed : Tree → List ℕ
  printed (leaf a b) = leaf_text a b
  printed (gap t) = bytes "gap(" ++ (t ++ bytes ")")
  printed (complement t) = bytes "complement(" ++ (printed t ++ bytes ")")
  printed (join ts) = bytes "join(" ++ (printed_all ts ++ bytes ")")
  printed (order ts) = bytes "order(" ++ (printed_all ts ++ bytes ")")

  pub printed_all : Trees → List ℕ
  printed_all (last t) = printed t
  printed_all (before t ts) = printed t ++ (bytes "," ++ printed_all ts)

-- ---- its rows, where it is printed at `at`

-- by form, marks and the two numbers
abbrev pub bases_row : (ℕ → ℕ → ℕ → ℕ → LocationRow) → Bases → LocationRow
bases_row row (base n) = row 1 0 n n
bases_row row (range less n more m) = row 2 (pick less 1 0 + pick more 2 0) n m
bases_row row (between n m) = row 3 0 n m

abbrev pub leaf_row_at : ℕ → May Accession → Bases → LocationRow
leaf_row_at at absent b = bases_row (leaf_row 0 0) b
leaf_row_at at (is a) b = bases_row (leaf_row at (length (accession_text a))) b

-- members before their word
abbrev pub closing : ℕ → List LocationRow → List LocationRow
closing form rows = rows ++ word_row form (length rows) ∷ []

unfoldable mutual
  pub rows_at : ℕ → Tree → List LocationRow
  rows_at at (leaf a b) = leaf_row_at at a b ∷ []
  rows_at at (gap t) = gap_row (at + length (bytes "gap(")) (length t) ∷ []
  rows_at at (complement t) = closing 4 (rows_at (at + length (bytes "complement(")) t)
  rows_at at (join ts) = closing 5 (rows_at_all (at + length (bytes "join(")) ts)
  rows_at at (order ts) = closing 6 (rows_at_all (at + length (bytes "order(")) ts)

  pub rows_at_all : ℕ → Trees → List LocationRow
  rows_at_all at (last t) = rows_at at t
  rows_at_all at (before t ts) = rows_at at t ++ rows_at_all (at + length (printed t) + length (bytes ",")) ts

-- ---- what a location may be

-- "1 to 4,294,967,295"
abbrev pub number_fine : ℕ → Bool
number_fine n = leb 1 n && leb n 4294967295

abbrev pub bases_fine : Bases → Bool
bases_fine (base n) = number_fine n
bases_fine (range less n more m) = number_fine n && number_fine m
bases_fine (between n m) = number_fine n && number_fine m

-- "one or more letters, digits or `_`", and one or more digits
abbrev pub accession_fine : May Accession → Bool
accession_fine absent = true
accession_fine (is a) = (some a.name && all in_accession a.name) && (some a.version && all digit a.version)

unfoldable mutual
  pub proper : Bool → Tree → Bool
  proper gaps (leaf a b) = accession_fine a && bases_fine b
  proper gaps (gap t) = gaps && all in_gap t
  proper gaps (complement t) = proper gaps t
  proper gaps (join ts) = proper_all gaps ts
  proper gaps (order ts) = proper_all gaps ts

  pub proper_all : Bool → Trees → Bool
  proper_all gaps (last t) = proper gaps t
  proper_all gaps (before t ts) = proper gaps t && proper_all gaps ts

-- how many words are open at once
unfoldable mutual
  pub nested : Tree → ℕ
  nested (leaf a b) = 0
  nested (gap t) = 0
  nested (complement t) = suc (nested t)
  nested (join ts) = suc (nested_all ts)
  nested (order ts) = suc (nested_all ts)

  pub nested_all : Trees → ℕ
  nested_all (last t) = nested t
  nested_all (before t ts) = max (nested t) (nested_all ts)

-- ---- for example

abbrev example : Tree
example =
    join
    (before (leaf absent (range false 1 false 3))
    (last (complement (order (before (leaf absent (base 5)) (last (leaf (is (record { name = bytes "A"; version = bytes "1" })) (range true 7 false 8))))))))

example_text : printed example ≡ bytes "join(1..3,complement(order(5,A.1:<7..8)))"
unfolding printed digits
example_text = refl

example_rows : rows_at 0 example ≡ leaf_row 0 0 2 0 1 3 ∷ leaf_row 0 0 1 0 5 5 ∷ leaf_row 29 3 2 1 7 8 ∷ word_row 6 2 ∷ word_row 4 3 ∷ word_row 5 5 ∷ []
unfolding printed digits rows_at
example_rows = refl
