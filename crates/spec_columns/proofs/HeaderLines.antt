-- The header: each entry has its word in its columns and its text from column 13, where it goes on.
use Prim.Native.Nat.{ℕ, ◌+◌, ◌-◌, ◌≤◌, ◌<◌}
use Rattle.std.proofs.Common.{arith, length-append, drop_at}
use Rattle.std.specs.Prelude.{true, ◌≡◌, refl, length, drop}
use Rattle.std.proofs.Math.Bool.{false}
use Rattle.std.proofs.Math.Path.{sym}
use mathlib.Core.List.{List, [], ◌∷◌, ◌++◌, append_assoc, append-nil}
use Rattle.std.proofs.lemmas.List.{length-replicate}
use Rattle.spec_format.specs.Bytes.{May, absent, is, bytes, spaces, each}
use Rattle.spec_format.specs.Table.{Source, Reference, Table}
use Rattle.spec_format.specs.Wrap.{wrap_text}
use Rattle.spec_format.specs.Write.{padded, field_lines, maybe_lines, source_lines, reference_lines, header_lines}
use Rattle.spec_public.specs.Public.{blank_at, entry_columns}
use Rattle.spec_columns.specs.Tests.{both, same_as}
use Rattle.spec_columns.specs.Parts.{part, padded_length, blank_start, rest_start}
use Rattle.spec_columns.specs.Lines.{laid}
use Rattle.spec_columns.proofs.TextLines.{wrapped_presents}
use Rattle.spec_columns.specs.HeaderLines.{Entry, entry_lines, EntryLaid, entry, entry_if, source_entries, reference_entries, entries_of, entries, Every}

-- ---- an entry

-- the word in its columns
module _ (a : ℕ) (w : List ℕ) (h : 1 ≤ a) (g : a - 1 + length w ≤ 12) where
  word_parts : padded 12 (spaces (a - 1) ++ w) ≡ spaces (a - 1) ++ (w ++ spaces (13 - a - length w))
  word_parts =
      let e : 12 - length (spaces (a - 1) ++ w) ≡ 13 - a - length w = simp (length-append, length-replicate) (omega arith) in
      rw e (append_assoc (spaces (a - 1)) w (spaces (13 - a - length w)))

  word_length : length (padded 12 (spaces (a - 1) ++ w)) ≡ 12
  word_length = padded_length 12 (spaces (a - 1) ++ w) (simp (length-append, length-replicate) (omega arith))

  word_columns : (l : List ℕ) → entry_columns a w l (padded 12 (spaces (a - 1) ++ w) ++ l) ≡ true
  word_columns l =
      let line : List ℕ = padded 12 (spaces (a - 1) ++ w) ++ l in
      let x : List ℕ = w ++ spaces (13 - a - length w) in
      let e : line ≡ spaces (a - 1) ++ (x ++ l) = rw word_parts (append_assoc (spaces (a - 1)) x l) in
      let d : drop (a - 1) line ≡ x ++ l = rw e (drop_at (spaces (a - 1)) (x ++ l) (a - 1) (length-replicate {A = ℕ} (a - 1) 32)) in
      let p = part line (a - 1) (13 - a) x l d (simp (length-append, length-replicate) (omega arith)) in
      let b : blank_at 1 (a - 1) line ≡ true = rw e (blank_start (a - 1) (a - 1) (x ++ l) refl) in
      both _ _ b (both _ _ (same_as _ _ p.here)
      (both _ _ (rest_start 13 (padded 12 (spaces (a - 1) ++ w)) l word_length) refl))

  entry_columns_lem : (W : ℕ) (t : List ℕ) → 13 < W → EntryLaid W (record { column = a; word = w; text = t })
  unfolding field_lines wrap_text
  entry_columns_lem W t k =
      let start : List ℕ = padded 12 (spaces (a - 1) ++ w) in
      let p = wrapped_presents false W 12 (length start) t k in
      record {
        line = p.line;
        lines = p.lines;
        lies = rw p.is (laid (entry_columns a w) 12 start p.line p.lines (word_columns p.line));
        presents = p.presents;
      }

-- ---- all entries

every_append : {A : Type 0} (p : A → Type 0) (xs ys : List A) → Every p xs → Every p ys → Every p (xs ++ ys)
unfolding Every
every_append p [] ys a b = b
every_append p (x ∷ xs) ys a b = (a.0, every_append p xs ys a.1 b)

each_append : {A : Type 0} (f : A → List ℕ) (xs ys : List A) → each f (xs ++ ys) ≡ each f xs ++ each f ys
each_append f [] ys = refl
each_append f (x ∷ xs) ys = rw (each_append f xs ys) (sym (append_assoc (f x) (each f xs) (each f ys)))

-- the entries' lines are the text, and each entry lies in its columns
record Header (W : ℕ) (es : List Entry) (text : List ℕ) : Type 0 where
  is : text ≡ each (entry_lines W) es
  laid_so : Every (EntryLaid W) es

none : (W : ℕ) → Header W [] []
unfolding Every
none W = record { is = refl; laid_so = tt }

two : (W : ℕ) (es fs : List Entry) (x y : List ℕ) → Header W es x → Header W fs y → Header W (es ++ fs) (x ++ y)
two W es fs x y a b =
    record { is = cc (a.is, b.is, each_append (entry_lines W) es fs); laid_so = every_append (EntryLaid W) es fs a.laid_so b.laid_so }

module _ (W : ℕ) (h : 13 < W) where
  one : (a : ℕ) (w t : List ℕ) → 1 ≤ a → a - 1 + length w ≤ 12 → Header W (entry a w t) (field_lines W (spaces (a - 1) ++ w) t)
  unfolding Every
  one a w t k g = record { is = sym (append-nil (field_lines W (spaces (a - 1) ++ w) t)); laid_so = (entry_columns_lem a w k g W t h, tt) }

  one_if : (a : ℕ) (w : List ℕ) (t : May (List ℕ)) → 1 ≤ a → a - 1 + length w ≤ 12 → Header W (entry_if a w t) (maybe_lines W (spaces (a - 1) ++ w) t)
  one_if a w absent k g = none W
  one_if a w (is t) k g = one a w t k g

  source_header : (s : May Source) → Header W (source_entries s) (source_lines W s)
  source_header absent = none W
  source_header (is s) = two W _ _ _ _ (one 1 (bytes "SOURCE") s.text (omega arith) (omega arith)) (one_if 3 (bytes "ORGANISM") s.organism (omega arith) (omega arith))

  reference_header : (r : Reference) → Header W (reference_entries r) (reference_lines W r)
  unfolding reference_entries reference_lines
  reference_header r =
      two W _ _ _ _ (two W _ _ _ _ (two W _ _ _ _ (two W _ _ _ _ (two W _ _ _ _ (two W _ _ _ _
      (one 1 (bytes "REFERENCE") r.text (omega arith) (omega arith)) (one_if 3 (bytes "AUTHORS") r.authors (omega arith) (omega arith)))
      (one_if 3 (bytes "CONSRTM") r.consrtm (omega arith) (omega arith))) (one 3 (bytes "TITLE") r.title (omega arith) (omega arith)))
      (one_if 3 (bytes "JOURNAL") r.journal (omega arith) (omega arith))) (one_if 4 (bytes "PUBMED") r.pubmed (omega arith) (omega arith)))
      (one_if 3 (bytes "REMARK") r.remark (omega arith) (omega arith))

  each_header :
      {A : Type 0} (f : A → List Entry) (g : A → List ℕ) → ((x : A) → Header W (f x) (g x)) → (xs : List A) → Header W (entries_of f xs) (each g xs)
  unfolding entries_of
  each_header f g k [] = none W
  each_header f g k (x ∷ xs) = two W _ _ _ _ (k x) (each_header f g k xs)

  whole_header : (t : Table) → Header W (entries t) (header_lines W t)
  unfolding entries header_lines
  whole_header t =
      two W _ _ _ _ (two W _ _ _ _ (two W _ _ _ _ (two W _ _ _ _ (two W _ _ _ _ (two W _ _ _ _ (two W _ _ _ _
      (one_if 1 (bytes "DEFINITION") t.definition (omega arith) (omega arith)) (one_if 1 (bytes "ACCESSION") t.accession (omega arith) (omega arith)))
      (one_if 1 (bytes "VERSION") t.version (omega arith) (omega arith))) (one_if 1 (bytes "DBLINK") t.dblink (omega arith) (omega arith)))
      (one_if 1 (bytes "KEYWORDS") t.keywords (omega arith) (omega arith))) (source_header t.source))
      (each_header reference_entries (reference_lines W) reference_header t.references))
      (each_header (entry 1 (bytes "COMMENT")) (field_lines W (bytes "COMMENT")) (λ c. one 1 (bytes "COMMENT") c (omega arith) (omega arith)) t.comments)

-- the written header is the lines of the table's entries, and each of them lies in its columns
pub header_columns : (W : ℕ) (t : Table) → 13 < W → (header_lines W t ≡ each (entry_lines W) (entries t)) × Every (EntryLaid W) (entries t)
header_columns W t h = let w = whole_header W h t in (w.is, w.laid_so)
