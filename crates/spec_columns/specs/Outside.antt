-- Where the writer leaves the columns of the flat file: the smallest tables, computed.
use Rattle.std.specs.Prelude.{ℕ, Bool, true, false, ◌&&◌, not, ◌≡◌, refl, List, [], ◌∷◌, replicate, None}
use Rattle.spec_format.specs.Bytes.{absent, is, bytes, all, digits}
use Rattle.spec_format.specs.Dates.{month_name, date_text}
use Rattle.spec_format.specs.Table.{Feature, Table}
use Rattle.spec_format.specs.Location.{rows_in}
use Rattle.spec_format.specs.Locus.{tokens}
use Rattle.spec_format.specs.Write.{length_text, words, joined, printed_name, locus_text, field_lines, feature_lines, letter_lines, origin_lines}
use Rattle.spec_format.specs.Wrap.{fill, closing, lines_after, wrapped, wrap_text, comma_lines, wrap_location}
use Rattle.spec_public.specs.Public.{LocusValues, locus_tests, locus_columns, feature_columns, within}
use Rattle.spec_columns.specs.LocusLine.{locus_values, line_of}

-- a table with a LOCUS line only: its name, molecule type and division
abbrev pub short : List ℕ → List ℕ → List ℕ → Table
short name molecule division =
    record {
      locus = record { name = is name; length = is 0; molecule = is molecule; circular = false; division = division; date = None };
      definition = absent;
      accession = absent;
      version = absent;
      dblink = absent;
      keywords = absent;
      source = absent;
      references = [];
      comments = [];
      features = [];
      contig = absent;
      letters = [];
    }

abbrev pub letters : ℕ → List ℕ
letters n = replicate n 97

-- ---- LOCUS

-- a table, and what the flat file would have in the columns of its line
pub record Shown : Type 0 where
  pub table : Table
  pub values : LocusValues

abbrev shown : Table → Shown
shown t = record { table = t; values = locus_values false false t }

-- the strand is a part of the molecule type here, and has columns 45 to 47 there
abbrev stranded : Table → List ℕ → List ℕ → Shown
stranded t strand molecule =
    let v : LocusValues = locus_values false false t in
    record {
      table = t;
      values =
          record { name = v.name; count = v.count; strand = strand; molecule = molecule; topology = v.topology; division = v.division; date = v.date };
    }

abbrev met : Shown → Bool
met s = locus_columns s.values (line_of (locus_text false false s.table))

-- a name of 16 bytes, a molecule type of 6 and a division of 3 meet the columns, without a date too
unfoldable pub inside : List Shown
inside = shown (short (letters 16) (letters 6) (bytes "SYN")) ∷ shown (short (letters 1) [] (bytes "SYN")) ∷ []

-- a name or molecule type of one byte more does not, nor a division of 2 or of 4, nor a molecule type that begins with its strand
unfoldable pub outside : List Shown
outside =
    shown (short (letters 17) (bytes "DNA") (bytes "SYN")) ∷ shown (short (letters 1) (letters 7) (bytes "SYN")) ∷ shown (short (letters 1) (bytes "DNA") (bytes "SY")) ∷
    shown (short (letters 1) (bytes "DNA") (bytes "SYNT")) ∷ stranded (short (letters 1) (bytes "ss-DNA") (bytes "SYN")) (bytes "ss-") (bytes "DNA") ∷ []

pub locus_outside : (all met inside && all (λ s. not (met s)) outside) ≡ true
unfolding inside outside locus_tests locus_text printed_name length_text digits date_text month_name words joined tokens
locus_outside = refl

-- ---- features

abbrev pub feature_of : ℕ → Feature
feature_of n = record { kind = letters n; location = bytes "1"; qualifiers = []; rows = rows_in false (bytes "1") }

-- a kind of 15 bytes meets the columns; one of 16 pushes the location to column 23
pub kind_outside :
    (feature_columns (letters 15) (bytes "1") (line_of (feature_lines 80 (feature_of 15))) ≡ true) ×
    (feature_columns (letters 16) (bytes "1") (line_of (feature_lines 80 (feature_of 16))) ≡ false)
unfolding feature_lines wrap_location comma_lines
kind_outside = (refl, refl)

-- ---- the width

-- LOCUS has more than 79 columns with a name of 27 bytes, more than 132 with one of 80, whatever the width; a line of letters has 75; a text may have more than
-- 80 where the width is more
pub wider :
    (within 79 79 (locus_text false false (short (letters 26) (bytes "DNA") (bytes "SYN"))) ≡ true) ×
    (within 79 79 (locus_text false false (short (letters 27) (bytes "DNA") (bytes "SYN"))) ≡ false) ×
    (within 132 132 (locus_text false false (short (letters 80) (bytes "DNA") (bytes "SYN"))) ≡ false) × (within 75 75 (origin_lines (letters 60)) ≡ true) ×
    (within 60 60 (origin_lines (letters 60)) ≡ false) × (within 80 80 (field_lines 81 (bytes "COMMENT") (letters 69)) ≡ false)
unfolding within locus_text printed_name length_text digits date_text month_name words joined tokens origin_lines letter_lines field_lines wrap_text wrapped fill lines_after closing
wider = (refl, refl, refl, refl, refl, refl)
