-- Writing a table: `write` and `locus_line` of writer.rs.
use Rattle.std.specs.Prelude.{ℕ, zero, suc, ◌+◌, ◌-◌, ◌%◌, Bool, true, false, ◌&&◌, ◌||◌, List, [], ◌∷◌, ◌++◌, length, take, get_or, eqb, ltb}
use Rattle.spec_format.specs.Bytes.{pick, May, absent, is, bytes, spaces, among, each, between, decimal}
use Rattle.spec_format.specs.Dates.{date_text, printed_date}
use Rattle.spec_format.specs.Table.{Source, Reference, Qualifier, Feature, Contig, Table}
use Rattle.spec_format.specs.Locus.{tokens}
use Rattle.spec_format.specs.Wrap.{wrap_text, wrap_location}

abbrev pub padded : ℕ → List ℕ → List ℕ
padded n w = w ++ spaces (n - length w)

abbrev pub right_aligned : ℕ → List ℕ → List ℕ
right_aligned n w = spaces (n - length w) ++ w

-- ---- LOCUS: `locus_line`

-- "name, else ACCESSION, else UNTITLED"
abbrev pub name_or : May (List ℕ) → May (List ℕ) → List ℕ
name_or (is n) a = n
name_or absent (is a) = a
name_or absent absent = bytes "UNTITLED"

-- "The length is LOCUS's, else the letter count"
abbrev pub length_or : May ℕ → ℕ → ℕ
length_or (is l) n = l
length_or absent n = n

unfoldable pub length_text : Table → List ℕ
length_text t = decimal (length_or t.locus.length (length t.letters))

-- the bytes of the Unicode white space that starts with a, b, c: 1, 2, 3, or 0 where none does
unfoldable pub white : ℕ → ℕ → ℕ → ℕ
white a b c =
    pick (between 9 13 a || eqb a 32) 1 (pick (eqb a 194 && (eqb b 133 || eqb b 160)) 2
    (pick ((eqb a 225 && (eqb b 154 && eqb c 128)) || ((eqb a 226 && (eqb b 128 && (between 128 138 c || (between 168 169 c || eqb c 175)))) ||
    ((eqb a 226 && (eqb b 129 && eqb c 159)) || (eqb a 227 && (eqb b 128 && eqb c 128))))) 3 0))

-- the text with a space for each byte of white space; n bytes of one are to come
unfoldable pub blanked : ℕ → List ℕ → List ℕ
blanked n [] = []
blanked (suc n) (b ∷ s) = 32 ∷ blanked n s
blanked zero (b ∷ s) = elim (white b (get_or s 0 0) (get_or s 1 0)) [ zero ↦ b ∷ blanked 0 s | suc n ↦ 32 ∷ blanked n s ]

-- `split_whitespace`
unfoldable pub words : List ℕ → List (List ℕ)
words s = tokens (blanked 0 s)

unfoldable pub joined : List (List ℕ) → List ℕ
joined [] = []
joined (w ∷ ws) = elim ws [ [] ↦ w | x ∷ xs ↦ w ++ 95 ∷ [] ++ joined ws ]

-- "With truncation on, above 28 the name keeps 27 minus digits bytes"
abbrev pub truncated : Bool → ℕ → List ℕ → List ℕ
truncated on n name = pick (on && ltb 28 (length name + 1 + n)) (take (27 - n) name) name

-- "With escaping on, after that, a name of two or more words becomes those words joined by `_`"
abbrev pub escaped_name : Bool → List ℕ → List ℕ
escaped_name on name = pick (on && ltb 1 (length (words name))) (joined (words name)) name

unfoldable pub printed_name : Bool → Bool → Table → List ℕ
printed_name truncate escape t = escaped_name escape (truncated truncate (length (length_text t)) (name_or t.locus.name t.accession))

-- ".. and a molecule type over 7 bytes is left out"
abbrev pub molecule_text : Bool → May (List ℕ) → List ℕ
molecule_text truncate absent = []
molecule_text truncate (is m) = pick (truncate && ltb 7 (length m)) [] m

abbrev pub topology_text : Bool → List ℕ
topology_text true = bytes "circular"
topology_text false = bytes "linear"

-- "Name and length fill 28 columns; from name + 1 + digits = 28 they are joined by one space"
abbrev pub name_and_length : List ℕ → List ℕ → List ℕ
name_and_length name digits = name ++ spaces (suc (27 - (length name + length digits))) ++ digits

unfoldable pub locus_text : Bool → Bool → Table → List ℕ
locus_text truncate escape t =
    bytes "LOCUS       " ++ name_and_length (printed_name truncate escape t) (length_text t) ++ bytes " bp    " ++
    padded 7 (molecule_text truncate t.locus.molecule) ++ bytes " " ++ padded 8 (topology_text t.locus.circular) ++ bytes " " ++
    t.locus.division ++ bytes " " ++ date_text (printed_date t.locus.date) ++ bytes "\n"

-- ---- the header: "Header words are padded to 12 and wrapped as unquoted text"

-- `write_field`
unfoldable pub field_lines : ℕ → List ℕ → List ℕ → List ℕ
field_lines W word t = wrap_text W (padded 12 word) 12 false t

-- `write_field_maybe`
abbrev pub maybe_lines : ℕ → List ℕ → May (List ℕ) → List ℕ
maybe_lines W word absent = []
maybe_lines W word (is t) = field_lines W word t

abbrev pub source_lines : ℕ → May Source → List ℕ
source_lines W absent = []
source_lines W (is s) = field_lines W (bytes "SOURCE") s.text ++ maybe_lines W (bytes "  ORGANISM") s.organism

unfoldable pub reference_lines : ℕ → Reference → List ℕ
reference_lines W r =
    field_lines W (bytes "REFERENCE") r.text ++ maybe_lines W (bytes "  AUTHORS") r.authors ++ maybe_lines W (bytes "  CONSRTM") r.consrtm ++
    field_lines W (bytes "  TITLE") r.title ++ maybe_lines W (bytes "  JOURNAL") r.journal ++ maybe_lines W (bytes "   PUBMED") r.pubmed ++
    maybe_lines W (bytes "  REMARK") r.remark

unfoldable pub header_lines : ℕ → Table → List ℕ
header_lines W t =
    maybe_lines W (bytes "DEFINITION") t.definition ++ maybe_lines W (bytes "ACCESSION") t.accession ++ maybe_lines W (bytes "VERSION") t.version ++
    maybe_lines W (bytes "DBLINK") t.dblink ++ maybe_lines W (bytes "KEYWORDS") t.keywords ++ source_lines W t.source ++
    each (reference_lines W) t.references ++ each (field_lines W (bytes "COMMENT")) t.comments

-- ---- features

-- `POS_QUAL`: "the keys anticodon and transl_except"
unfoldable pub comma_key : List ℕ → Bool
comma_key k = among k (bytes "anticodon" ∷ bytes "transl_except" ∷ [])

-- `FTQUAL_NO_QUOTE`: "Written bare" (departure 6)
unfoldable pub bare_key : List ℕ → Bool
bare_key k =
    among k
    (bytes "anticodon" ∷ bytes "citation" ∷ bytes "codon_start" ∷ bytes "compare" ∷ bytes "direction" ∷ bytes "estimated_length" ∷ bytes "mod_base" ∷
    bytes "number" ∷ bytes "rpt_type" ∷ bytes "rpt_unit_range" ∷ bytes "tag_peptide" ∷ bytes "transl_except" ∷ bytes "transl_table" ∷ [])

abbrev pub key_text : List ℕ → List ℕ
key_text k = spaces 21 ++ bytes "/" ++ k

abbrev pub quotes : List ℕ → Bool
quotes k = pick (bare_key k) false true

unfoldable pub value_lines : ℕ → List ℕ → List ℕ → List ℕ
value_lines W k v = pick (comma_key k) (wrap_location W (key_text k ++ bytes "=") 21 v) (wrap_text W (key_text k ++ bytes "=") 21 (quotes k) v)

abbrev pub qualifier_text : ℕ → List ℕ → May (List ℕ) → List ℕ
qualifier_text W k absent = key_text k ++ bytes "\n"
qualifier_text W k (is v) = value_lines W k v

unfoldable pub qualifier_lines : ℕ → Qualifier → List ℕ
qualifier_lines W q = qualifier_text W q.key q.value

unfoldable pub feature_lines : ℕ → Feature → List ℕ
feature_lines W f = wrap_location W (spaces 5 ++ padded 15 f.kind ++ bytes " ") 21 f.location ++ each (qualifier_lines W) f.qualifiers

unfoldable pub features_lines : ℕ → List Feature → List ℕ
features_lines W [] = []
features_lines W (f ∷ fs) = bytes "FEATURES             Location/Qualifiers\n" ++ each (feature_lines W) (f ∷ fs)

abbrev pub contig_lines : ℕ → May Contig → List ℕ
contig_lines W absent = []
contig_lines W (is c) = wrap_location W (bytes "CONTIG      ") 12 c.text

-- ---- ORIGIN: "60 letters a line, number right-aligned in 9, a space before each ten"

abbrev pub line_start : ℕ → List ℕ
line_start i = pick (eqb (i % 60) 0) (10 ∷ [] ++ right_aligned 9 (decimal (suc i))) []

abbrev pub ten_start : ℕ → List ℕ
ten_start i = pick (eqb (i % 10) 0) (32 ∷ []) []

-- the letters from number i on, counted from 0
unfoldable pub letter_lines : ℕ → List ℕ → List ℕ
letter_lines i [] = 10 ∷ []
letter_lines i (b ∷ t) = line_start i ++ ten_start i ++ b ∷ [] ++ letter_lines (suc i) t

-- "ORIGIN and six spaces"; "No letters, no ORIGIN"
unfoldable pub origin_lines : List ℕ → List ℕ
origin_lines [] = []
origin_lines (b ∷ t) = bytes "ORIGIN      " ++ letter_lines 0 (b ∷ t)

-- ---- the record at a width, with the two switches

unfoldable pub written : ℕ → Bool → Bool → Table → List ℕ
written W truncate escape t =
    locus_text truncate escape t ++ header_lines W t ++ features_lines W t.features ++ contig_lines W t.contig ++ origin_lines t.letters ++ bytes "//\n"
