-- What the public documents say, apart from the Rust: the lines of the GenBank flat file by their columns (release notes, section 3.4), and how the INSDC feature
-- table presents locations and values. The writer is proved against these in crates/spec_columns, the reader in crates/spec_columns_back.
use Rattle.std.specs.Prelude.{ℕ, zero, suc, ◌+◌, ◌-◌, Bool, true, false, ◌&&◌, ◌||◌, List, [], ◌∷◌, ◌++◌, length, take, drop, eqb}
use Rattle.spec_format.specs.Bytes.{pick, bytes, spaces, same, all, but}
use Rattle.spec_format.specs.Wrap.{inner}

-- columns a to b of a line, counted from 1
abbrev pub columns : ℕ → ℕ → List ℕ → List ℕ
columns a b line = take (suc b - a) (drop (a - 1) line)

-- w stands in columns a to b from the left, or from the right, and the others are blank
abbrev pub from_left : ℕ → ℕ → List ℕ → List ℕ → Bool
from_left a b w line = same (columns a b line) (w ++ spaces (suc b - a - length w))

abbrev pub from_right : ℕ → ℕ → List ℕ → List ℕ → Bool
from_right a b w line = same (columns a b line) (spaces (suc b - a - length w) ++ w)

abbrev pub blank_at : ℕ → ℕ → List ℕ → Bool
blank_at a b line = from_left a b [] line

-- from column a on the line is w, and then ends
abbrev pub rest_from : ℕ → List ℕ → List ℕ → Bool
rest_from a w line = same (drop (a - 1) line) w

-- the line passes each test
abbrev pub passes : List (List ℕ → Bool) → List ℕ → Bool
passes tests line = all (λ test. test line) tests

-- ---- LOCUS (3.4.4)

pub record LocusValues : Type 0 where
  pub name : List ℕ
  pub count : List ℕ
  pub strand : List ℕ
  pub molecule : List ℕ
  pub topology : List ℕ
  pub division : List ℕ
  pub date : List ℕ

-- each value in its columns, blank between them
unfoldable pub locus_tests : LocusValues → List (List ℕ → Bool)
locus_tests v =
    from_left 1 12 (bytes "LOCUS") ∷ from_left 13 28 v.name ∷ blank_at 29 29 ∷ from_right 30 40 v.count ∷ blank_at 41 41 ∷ from_left 42 43 (bytes "bp") ∷
    blank_at 44 44 ∷ from_left 45 47 v.strand ∷ from_left 48 53 v.molecule ∷ blank_at 54 55 ∷ from_left 56 63 v.topology ∷ blank_at 64 64 ∷
    from_left 65 67 v.division ∷ blank_at 68 68 ∷ rest_from 69 v.date ∷ []

abbrev pub locus_columns : LocusValues → List ℕ → Bool
locus_columns v line = passes (locus_tests v) line

-- ---- the header (3.4.2): a word from column 1, a subordinate one from column 3, PUBMED from 4, the text from 13, where it goes on

abbrev pub entry_columns : ℕ → List ℕ → List ℕ → List ℕ → Bool
entry_columns a word text line = passes (blank_at 1 (a - 1) ∷ from_left a 12 word ∷ rest_from 13 text ∷ []) line

-- ---- features (3.4.12): the words of the first line at columns 1 and 22; the key in columns 6 to 20, the location from 22; a qualifier from 22

abbrev pub features_columns : List ℕ → Bool
features_columns line = passes (from_left 1 21 (bytes "FEATURES") ∷ rest_from 22 (bytes "Location/Qualifiers") ∷ []) line

abbrev pub feature_columns : List ℕ → List ℕ → List ℕ → Bool
feature_columns key location line = passes (blank_at 1 5 ∷ from_left 6 20 key ∷ blank_at 21 21 ∷ rest_from 22 location ∷ []) line

abbrev pub qualifier_columns : List ℕ → List ℕ → Bool
qualifier_columns text line = passes (blank_at 1 21 ∷ rest_from 22 text ∷ []) line

-- what goes on stands alone, from the column where it began
abbrev pub continues : ℕ → List ℕ → List ℕ → Bool
continues a text line = passes (blank_at 1 (a - 1) ∷ rest_from a text ∷ []) line

-- each of the lines goes on with its text
unfoldable pub continued : ℕ → List (List ℕ) → List (List ℕ) → Bool
continued a [] [] = true
continued a [] (l ∷ lines) = false
continued a (t ∷ texts) [] = false
continued a (t ∷ texts) (l ∷ lines) = continues a t l && continued a texts lines

-- ---- ORIGIN (3.4.13): the number of the line's first letter right-aligned in columns 1 to 9, a blank, and blocks of ten from column 11
unfoldable pub blocks : ℕ → List ℕ → List ℕ
blocks zero l = []
blocks (suc n) [] = []
blocks (suc n) (b ∷ l) = 32 ∷ [] ++ take 10 (b ∷ l) ++ blocks n (drop 10 (b ∷ l))

abbrev pub origin_columns : List ℕ → List ℕ → List ℕ → Bool
origin_columns count letters line = passes (from_right 1 9 count ∷ rest_from 10 (blocks 6 letters) ∷ []) line

-- ---- the width: each line has at most W columns, of which `left` are left in the first; a character takes one, whatever its bytes
unfoldable pub within : ℕ → ℕ → List ℕ → Bool
within W left [] = true
within W left (b ∷ t) =
    elim (eqb b 10) [ true ↦ within W W t | false ↦ elim (inner b) [ true ↦ within W left t | false ↦ elim left [ zero ↦ false | suc n ↦ within W n t ] ] ]

-- ---- a location (INSDC feature table, 3.4): its lines join to it, and each but the last ends with a comma; where a line has no comma it is full,
-- `first` bytes in the first line and `later` in one after it

abbrev pub no_comma : List ℕ → Bool
no_comma l = all (but 44) l

unfoldable pub ends_in_comma : List ℕ → Bool
ends_in_comma [] = false
ends_in_comma (b ∷ l) = elim l [ [] ↦ eqb b 44 | c ∷ m ↦ ends_in_comma l ]

unfoldable pub broken_at_commas : ℕ → ℕ → List ℕ → List (List ℕ) → Bool
broken_at_commas first later l [] = true
broken_at_commas first later l (m ∷ ms) = (ends_in_comma l || (no_comma l && eqb (length l) first)) && broken_at_commas later later m ms

-- ---- a quoted value (INSDC feature table, 3.3.3 and 4.1): enclosed in quotes, inner quotes doubled, over any number of lines, each continued at
-- the qualifier's column

unfoldable pub doubled : List ℕ → List ℕ
doubled [] = []
doubled (b ∷ t) = elim (eqb b 34) [ true ↦ 34 ∷ 34 ∷ doubled t | false ↦ b ∷ doubled t ]

-- the lines after the opening quote, up to the closing quote and its line end
unfoldable pub presented_lines : ℕ → List ℕ → List (List ℕ) → List ℕ
presented_lines indent l [] = doubled l ++ 34 ∷ 10 ∷ []
presented_lines indent l (m ∷ ms) = doubled l ++ 10 ∷ [] ++ spaces indent ++ presented_lines indent m ms

unfoldable pub presented : ℕ → List ℕ → List (List ℕ) → List ℕ
presented indent l ms = 34 ∷ [] ++ presented_lines indent l ms

-- the text that lines present: with LF at the breaks, or joined by nothing
unfoldable pub broken_text : Bool → List ℕ → List (List ℕ) → List ℕ
broken_text joined l [] = l
broken_text joined l (m ∷ ms) = l ++ pick joined [] (10 ∷ []) ++ broken_text joined m ms
