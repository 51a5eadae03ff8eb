-- Reading a location (document 02, ticket 1): its text into rows, "after the INSDC feature table". The text is given whole, and the first trouble from
-- left to right decides. `crates/spec_location` has the same as a grammar: what a tree prints is read as that tree, and nothing else is read.
use Rattle.std.specs.Prelude.{ℕ, zero, suc, ◌+◌, ◌-◌, Bool, true, false, ◌&&◌, ◌||◌, List, [], ◌∷◌, ◌++◌, length, eqb, leb}
use Rattle.spec_format.specs.Bytes.{pick, May, absent, is, bytes, some, starts, visible, digit, letter, but, number}
use Rattle.spec_format.specs.Table.{LocationRow}

-- what was read and what is left; a fault; or a seventeenth word
pub data Found (A : Type 0) : Type 0 where
  found : A → List ℕ → Found A
  fault : Found A
  deep : Found A

abbrev pub and_then : {A B : Type 0} → Found A → (A → List ℕ → Found B) → Found B
and_then (found a s) k = k a s
and_then fault k = fault
and_then deep k = deep

-- the bytes as far as they pass p, and what stands after them
unfoldable pub run : (ℕ → Bool) → List ℕ → List ℕ
run p [] = []
run p (b ∷ s) = elim (p b) [ true ↦ b ∷ run p s | false ↦ [] ]

unfoldable pub past : (ℕ → Bool) → List ℕ → List ℕ
past p [] = []
past p (b ∷ s) = elim (p b) [ true ↦ past p s | false ↦ b ∷ s ]

-- what stands behind a word, where the word stands
unfoldable pub behind : List ℕ → List ℕ → May (List ℕ)
behind [] s = is s
behind (c ∷ w) [] = absent
behind (c ∷ w) (b ∷ s) = elim (eqb b c) [ true ↦ behind w s | false ↦ absent ]

-- ---- "a base number 1 to 4,294,967,295 without leading zeros": digits as far as they go, and then judged

abbrev pub base_fine : List ℕ → Bool
base_fine ds = starts (but 48) ds && leb (number 0 ds) 4294967295

unfoldable pub base_number : List ℕ → Found ℕ
base_number s = pick (base_fine (run digit s)) (found (number 0 (run digit s)) (past digit s)) fault

-- ---- "n..m with `<` allowed before the first and `>` before the second; n^m"; `start` and `long` are those of the accession

abbrev pub leaf_row : ℕ → ℕ → ℕ → ℕ → ℕ → ℕ → LocationRow
leaf_row start long form marks n m = record { form = form; marks = marks; from = n; to = m; start = start; length = long; inside = 0 }

-- the second number of a range, after `..`
abbrev pub range_end : (ℕ → ℕ → ℕ → ℕ → LocationRow) → ℕ → ℕ → May (List ℕ) → List ℕ → Found LocationRow
range_end row marks n (is r) s = and_then (base_number r) λ m z. found (row 2 (marks + 2) n m) z
range_end row marks n absent s = and_then (base_number s) λ m z. found (row 2 marks n m) z

abbrev pub range_from : (ℕ → ℕ → ℕ → ℕ → LocationRow) → ℕ → ℕ → List ℕ → Found LocationRow
range_from row marks n s = range_end row marks n (behind (bytes ">") s) s

-- after the first number: `..`, or, if it had no `<`, `^` or nothing
abbrev pub between_or : (ℕ → ℕ → ℕ → ℕ → LocationRow) → ℕ → May (List ℕ) → List ℕ → Found LocationRow
between_or row n (is r) s = and_then (base_number r) λ m z. found (row 3 0 n m) z
between_or row n absent s = found (row 1 0 n n) s

abbrev pub after_first : (ℕ → ℕ → ℕ → ℕ → LocationRow) → ℕ → May (List ℕ) → List ℕ → Found LocationRow
after_first row n (is r) s = range_from row 0 n r
after_first row n absent s = between_or row n (behind (bytes "^") s) s

abbrev pub after_less : (ℕ → ℕ → ℕ → ℕ → LocationRow) → ℕ → May (List ℕ) → Found LocationRow
after_less row n (is r) = range_from row 1 n r
after_less row n absent = fault

abbrev pub bases_from : (ℕ → ℕ → ℕ → ℕ → LocationRow) → May (List ℕ) → List ℕ → Found LocationRow
bases_from row (is r) s = and_then (base_number r) λ n z. after_less row n (behind (bytes "..") z)
bases_from row absent s = and_then (base_number s) λ n z. after_first row n (behind (bytes "..") z) z

unfoldable pub bases : ℕ → ℕ → List ℕ → Found LocationRow
bases start long s = bases_from (leaf_row start long) (behind (bytes "<") s) s

-- ---- "an accession (one or more letters, digits or `_`), a dot, digits and a colon before any of these"

abbrev pub in_accession : ℕ → Bool
in_accession b = letter b || (digit b || eqb b 95)

abbrev pub version_colon : May (List ℕ) → May (List ℕ)
version_colon absent = absent
version_colon (is r) = pick (some (run digit r)) (behind (bytes ":") (past digit r)) absent

-- what stands behind the colon
unfoldable pub accession : List ℕ → May (List ℕ)
accession s = pick (some (run in_accession s)) (version_colon (behind (bytes ".") (past in_accession s))) absent

-- n is the length of the whole text, so that n less what is left is a place in it; the accession is without its colon
abbrev pub leaf_from : ℕ → List ℕ → May (List ℕ) → Found LocationRow
leaf_from n s (is r) = bases (n - length s) (length s - length r - 1) r
leaf_from n s absent = bases 0 0 s

unfoldable pub leaf : ℕ → List ℕ → Found LocationRow
leaf n s = leaf_from n s (accession s)

-- ---- "there gap( ) with no bracket inside is one too, as text"

abbrev pub in_gap : ℕ → Bool
in_gap b = visible b && (but 40 b && but 41 b)

abbrev pub gap_row : ℕ → ℕ → LocationRow
gap_row start long = record { form = 7; marks = 0; from = 0; to = 0; start = start; length = long; inside = 0 }

abbrev pub gap_end : ℕ → List ℕ → May (List ℕ) → Found LocationRow
gap_end n r (is z) = found (gap_row (n - length r) (length (run in_gap r))) z
gap_end n r absent = fault

abbrev pub gap_or : ℕ → List ℕ → May (List ℕ) → Found LocationRow
gap_or n s (is r) = gap_end n r (behind (bytes ")") (past in_gap r))
gap_or n s absent = leaf n s

-- a location that is no word: of one row
unfoldable pub plain : Bool → ℕ → List ℕ → Found LocationRow
plain contig n s = gap_or n s (pick contig (behind (bytes "gap(") s) absent)

-- ---- "complement( ) of one location; join( ) and order( ) of one or more. At most 16 of the three words may be open at once"

-- how a location begins: with a word and its bracket, and then this; or otherwise
pub data Begin : Type 0 where
  word : ℕ → List ℕ → Begin
  other : Begin

abbrev pub word_or : ℕ → Begin → May (List ℕ) → Begin
word_or form else (is r) = word form r
word_or form else absent = else

unfoldable pub begin : List ℕ → Begin
begin s = word_or 4 (word_or 5 (word_or 6 other (behind (bytes "order(") s)) (behind (bytes "join(") s)) (behind (bytes "complement(") s)

-- the row of a word stands after those of its members
abbrev pub word_row : ℕ → ℕ → LocationRow
word_row form inside = record { form = form; marks = 0; from = 0; to = 0; start = 0; length = 0; inside = inside }

abbrev pub closed_by : ℕ → List LocationRow → May (List ℕ) → Found (List LocationRow)
closed_by form rows (is z) = found (rows ++ word_row form (length rows) ∷ []) z
closed_by form rows absent = fault

abbrev pub closed : ℕ → Found (List LocationRow) → Found (List LocationRow)
closed form o = and_then o λ rows s. closed_by form rows (behind (bytes ")") s)

abbrev pub ahead : List LocationRow → Found (List LocationRow) → Found (List LocationRow)
ahead rows o = and_then o λ more s. found (rows ++ more) s

-- members that p reads, parted by commas: one, and no more in complement( ) (form 4)
abbrev pub comma_in : ℕ → List ℕ → May (List ℕ)
comma_in form s = pick (eqb form 4) absent (behind (bytes ",") s)

unfoldable pub members_in : ℕ → ℕ → (List ℕ → Found (List LocationRow)) → List ℕ → Found (List LocationRow)
members_in zero form p s = fault
members_in (suc k) form p s = and_then (p s) λ rows r. elim (comma_in form r) [ is z ↦ ahead rows (members_in k form p z) | absent ↦ found rows r ]

abbrev pub single : Found LocationRow → Found (List LocationRow)
single o = and_then o λ row s. found (row ∷ []) s

-- `left` words may still open; a word reads its members with one less
unfoldable pub location_from : Bool → ℕ → ℕ → Begin → List ℕ → Found (List LocationRow)
location_from contig n zero (word form r) s = deep
location_from contig n (suc left) (word form r) s = closed form (members_in (suc (length r)) form (λ z. location_from contig n left (begin z) z) r)
location_from contig n zero other s = single (plain contig n s)
location_from contig n (suc left) other s = single (plain contig n s)

abbrev pub location : Bool → ℕ → ℕ → List ℕ → Found (List LocationRow)
location contig n left s = location_from contig n left (begin s) s

-- ---- "A text has one reading or none"

pub data Reading : Type 0 where
  one : List LocationRow → Reading
  none : Reading
  too_deep : Reading

-- nothing may follow
abbrev pub whole : Found (List LocationRow) → Reading
whole (found rows []) = one rows
whole (found rows (b ∷ s)) = none
whole fault = none
whole deep = too_deep

unfoldable pub reading : Bool → List ℕ → Reading
reading contig t = whole (location contig (length t) 16 t)

abbrev pub is_one : Reading → Bool
is_one (one rows) = true
is_one none = false
is_one too_deep = false

abbrev pub is_deep : Reading → Bool
is_deep (one rows) = false
is_deep none = false
is_deep too_deep = true

abbrev pub rows_one : Reading → List LocationRow
rows_one (one rows) = rows
rows_one none = []
rows_one too_deep = []

-- the text of a location, in CONTIG or in a feature
abbrev pub locates : Bool → List ℕ → Bool
locates contig t = is_one (reading contig t)

-- its rows
abbrev pub rows_in : Bool → List ℕ → List LocationRow
rows_in contig t = rows_one (reading contig t)
