-- Reading, the header: field.rs.
use Rattle.std.specs.Prelude.{ℕ, ◌+◌, Bool, true, false, List, [], ◌∷◌, ◌++◌, length}
use Rattle.spec_format.specs.Bytes.{pick, May, absent, is, bytes, spaces, same, each}
use Rattle.spec_format.specs.Readers.{Ans, got, bind, mapped, or_else, optional, unless, tag, spaces1, line, utf8_of, many0}
use Rattle.spec_format.specs.Table.{Source, Reference}

-- a further line of a text, LF before it where line breaks are kept
abbrev pub line_after : Bool → List ℕ → List ℕ
line_after keep l = pick keep (10 ∷ l) l

-- `concat_lines`: "Lines join by LF, in PUBMED, BASE COUNT and CONTIG by nothing"
abbrev pub concat_lines : Bool → List ℕ → List (List ℕ) → List ℕ
concat_lines keep first rest = first ++ each (line_after keep) rest

-- a further line of an entry whose text stands n columns in
abbrev pub further_line : ℕ → List ℕ → Ans (List ℕ)
further_line n s = bind (tag (spaces n) s) λ _ s. line s

-- an entry's text, from its first byte on
unfoldable pub field_text : ℕ → Bool → List ℕ → Ans (List ℕ)
field_text n keep s = bind (line s) λ first s. bind (many0 (further_line n) s) λ rest s. got (concat_lines keep first rest) s

-- `field_bytes`: "indent, word, at least one space, text; further lines indented by indent + word + spaces belong to it"
unfoldable pub field_bytes : ℕ → List ℕ → Bool → List ℕ → Ans (List ℕ)
field_bytes indent word keep s =
    bind (tag (spaces indent) s) λ _ s. bind (tag word s) λ _ s. bind (spaces1 s) λ gap s. field_text (indent + length gap + length word) keep s

-- `field_string`
unfoldable pub field : ℕ → List ℕ → Bool → List ℕ → Ans (List ℕ)
field indent word keep s = utf8_of (field_bytes indent word keep s)

abbrev pub maybe_field : ℕ → List ℕ → Bool → List ℕ → Ans (May (List ℕ))
maybe_field indent word keep s = optional s (field indent word keep s)

-- `reference`: "A reference needs TITLE, the others are optional, in the Rust's order"
unfoldable pub reference : List ℕ → Ans Reference
reference s =
    bind (field 0 (bytes "REFERENCE") true s) λ text s. bind (maybe_field 2 (bytes "AUTHORS") true s) λ authors s.
    bind (maybe_field 2 (bytes "CONSRTM") true s) λ consrtm s. bind (field 2 (bytes "TITLE") true s) λ title s.
    bind (maybe_field 2 (bytes "JOURNAL") true s) λ journal s. bind (maybe_field 3 (bytes "PUBMED") false s) λ pubmed s.
    bind (maybe_field 2 (bytes "REMARK") true s) λ remark s.
    got (record { text = text; authors = authors; consrtm = consrtm; title = title; journal = journal; pubmed = pubmed; remark = remark }) s

-- `source`
unfoldable pub source : List ℕ → Ans Source
source s =
    bind (field 0 (bytes "SOURCE") true s) λ text s. bind (maybe_field 2 (bytes "ORGANISM") true s) λ organism s.
    got (record { text = text; organism = organism }) s

-- `Field`: an entry by its word and its text, or a line that was dropped
pub data Field : Type 0 where
  entry_of : List ℕ → List ℕ → Field
  source_of : Source → Field
  reference_of : Reference → Field
  dropped : Field

-- `ignored_line`: "A UTF-8 line that fits nothing is dropped, unless it begins ORIGIN, CONTIG, FEATURES or `//`" (departure 1)
unfoldable pub ignored_line : List ℕ → Ans (List ℕ)
ignored_line s =
    unless (tag (bytes "ORIGIN") s) (unless (tag (bytes "CONTIG") s) (unless (tag (bytes "FEATURES") s) (unless (tag (bytes "//") s) (utf8_of (line s)))))

-- `parse_field`
abbrev pub entry : List ℕ → List ℕ → Ans Field
entry word s = mapped (entry_of word) (field 0 word true s)

-- `field`
unfoldable pub header_field : List ℕ → Ans Field
header_field s =
    or_else (entry (bytes "DEFINITION") s) (or_else (entry (bytes "ACCESSION") s) (or_else (entry (bytes "VERSION") s) (or_else (entry (bytes "DBLINK") s)
    (or_else (entry (bytes "KEYWORDS") s) (or_else (mapped source_of (source s)) (or_else (mapped reference_of (reference s)) (or_else (entry (bytes "COMMENT") s)
    (mapped (λ l. dropped) (ignored_line s)))))))))

-- ---- `fill_seq_fields`: "Repeats of ACCESSION, VERSION, DBLINK, KEYWORDS, SOURCE overwrite; references and comments append"

-- the last that f finds
unfoldable pub latest : {A : Type 0} → (Field → May A) → List Field → May A
latest f [] = absent
latest f (x ∷ xs) = elim (latest f xs) [ is a ↦ is a | absent ↦ f x ]

-- all that f finds
unfoldable pub every : {A : Type 0} → (Field → May A) → List Field → List A
every f [] = []
every f (x ∷ xs) = elim (f x) [ is a ↦ a ∷ every f xs | absent ↦ every f xs ]

-- the text of an entry with that word
abbrev pub text_in : List ℕ → Field → May (List ℕ)
text_in word (entry_of w t) = pick (same w word) (is t) absent
text_in word (source_of x) = absent
text_in word (reference_of x) = absent
text_in word dropped = absent

abbrev pub source_in : Field → May Source
source_in (entry_of w t) = absent
source_in (source_of x) = is x
source_in (reference_of x) = absent
source_in dropped = absent

abbrev pub reference_in : Field → May Reference
reference_in (entry_of w t) = absent
reference_in (source_of x) = absent
reference_in (reference_of x) = is x
reference_in dropped = absent
