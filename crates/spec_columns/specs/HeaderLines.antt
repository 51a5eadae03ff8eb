-- The entries of a header, and what it is that each lies in its columns: its word there, its text from column 13, where it goes on. It does: proofs/HeaderLines.antt.
use Prim.Native.Nat.{ℕ, ◌+◌, ◌-◌}
use Rattle.std.proofs.Math.Bool.{false}
use mathlib.Core.List.{List, [], ◌∷◌, ◌++◌}
use Rattle.spec_format.specs.Bytes.{May, absent, is, bytes, spaces}
use Rattle.spec_format.specs.Table.{Source, Reference, Table}
use Rattle.spec_format.specs.Write.{field_lines}
use Rattle.spec_public.specs.Public.{entry_columns}
use Rattle.spec_columns.specs.Lines.{Laid}
use Rattle.spec_columns.specs.TextLines.{Presents}

-- an entry: where its word stands, the word, and the text
pub record Entry : Type 0 where
  pub column : ℕ
  pub word : List ℕ
  pub text : List ℕ

abbrev pub entry_lines : ℕ → Entry → List ℕ
entry_lines W e = field_lines W (spaces (e.column - 1) ++ e.word) e.text

-- its first line has the word in its columns and the text from column 13 on, those after it have text from column 13 on; the lines are the text's own
-- but for one space or LF that a break may leave out
pub record EntryLaid (W : ℕ) (e : Entry) : Type 0 where
  pub line : List ℕ
  pub lines : List (List ℕ)
  pub lies : Laid (entry_columns e.column e.word) 13 line lines (entry_lines W e)
  pub presents : Presents false e.text line lines

-- ---- a table's entries, in the flat file's order

abbrev pub entry : ℕ → List ℕ → List ℕ → List Entry
entry a w t = record { column = a; word = w; text = t } ∷ []

abbrev pub entry_if : ℕ → List ℕ → May (List ℕ) → List Entry
entry_if a w absent = []
entry_if a w (is t) = entry a w t

abbrev pub source_entries : May Source → List Entry
source_entries absent = []
source_entries (is s) = entry 1 (bytes "SOURCE") s.text ++ entry_if 3 (bytes "ORGANISM") s.organism

unfoldable pub reference_entries : Reference → List Entry
reference_entries r =
    entry 1 (bytes "REFERENCE") r.text ++ entry_if 3 (bytes "AUTHORS") r.authors ++ entry_if 3 (bytes "CONSRTM") r.consrtm ++
    entry 3 (bytes "TITLE") r.title ++ entry_if 3 (bytes "JOURNAL") r.journal ++ entry_if 4 (bytes "PUBMED") r.pubmed ++
    entry_if 3 (bytes "REMARK") r.remark

unfoldable pub entries_of : {A : Type 0} → (A → List Entry) → List A → List Entry
entries_of f [] = []
entries_of f (x ∷ xs) = f x ++ entries_of f xs

unfoldable pub entries : Table → List Entry
entries t =
    entry_if 1 (bytes "DEFINITION") t.definition ++ entry_if 1 (bytes "ACCESSION") t.accession ++ entry_if 1 (bytes "VERSION") t.version ++
    entry_if 1 (bytes "DBLINK") t.dblink ++ entry_if 1 (bytes "KEYWORDS") t.keywords ++ source_entries t.source ++
    entries_of reference_entries t.references ++ entries_of (entry 1 (bytes "COMMENT")) t.comments

-- ---- all entries

unfoldable pub Every : {A : Type 0} → (A → Type 0) → List A → Type 0
Every p [] = Unit
Every p (x ∷ xs) = p x × Every p xs
