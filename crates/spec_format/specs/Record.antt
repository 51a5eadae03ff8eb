-- Reading one record: `read_one_record` of stream_parser.rs, with document 01's numbers.
use Rattle.std.specs.Prelude.{ℕ, Bool, true, false, ◌&&◌, ◌||◌, List, [], ◌∷◌, length, drop, eqb, leb}
use Rattle.spec_format.specs.Bytes.{pick, May, absent, is, bytes}
use Rattle.spec_format.specs.Readers.{Ans, got, no, cut, bind, mapped, passing, optional, tag, line_end, while_fits}
use Rattle.spec_format.specs.Table.{Locus, Feature, Contig, Table}
use Rattle.spec_format.specs.Locus.{preamble, locus}
use Rattle.spec_format.specs.Header.{Field, field, field_bytes, header_field, latest, every, text_in, source_in, reference_in}
use Rattle.spec_format.specs.Location.{locates, rows_in}
use Rattle.spec_format.specs.Features.{features_header, feature}
use Rattle.spec_format.specs.Deep.{deep_feature, deep_contig}
use Rattle.spec_format.specs.Origin.{origin_tag, Letters, at_slash, at_end, bad_byte, letters}
use Rattle.spec_format.specs.declared.Unread.{Unread}
use Rattle.spec_format.specs.declared.Unread.TheVariants as unread

-- a table and what is left after the record, or why there is none
pub data Outcome : Type 0 where
  was_read : Table → List ℕ → Outcome
  not_read : Unread → Outcome

-- ---- sections

-- `features_header` and then features as long as they fit
unfoldable pub features : List ℕ → Ans (List Feature)
features s = bind (features_header s) λ _ s. while_fits feature s

-- `base_count`
abbrev pub base_count : List ℕ → Ans (List ℕ)
base_count s = field 0 (bytes "BASE COUNT") false s

-- `contig_text`, whose text has a reading as a location (ticket 1)
abbrev pub contig_of : List ℕ → Contig
contig_of t = record { text = t; rows = rows_in true t }

abbrev pub contig : List ℕ → Ans Contig
contig s = mapped contig_of (passing (locates true) (field_bytes 0 (bytes "CONTIG") false s))

-- a line beginning `//` after the place where the sections end
unfoldable pub slashes_later : List ℕ → Bool
slashes_later [] = false
slashes_later (b ∷ []) = false
slashes_later (b ∷ c ∷ []) = false
slashes_later (a ∷ b ∷ c ∷ s) = (eqb a 10 && (eqb b 47 && eqb c 47)) || slashes_later (b ∷ c ∷ s)

-- "`//` does not stand where the sections end"; 2 where "7 would be due with no later line beginning `//`"
abbrev pub no_slashes : List ℕ → Outcome
no_slashes s = pick (slashes_later s) (not_read unread.NoSlashes) (not_read unread.Unended)

-- what a reader left, or s where it read nothing
abbrev pub left_by : {A : Type 0} → List ℕ → Ans A → List ℕ
left_by s (got a r) = r
left_by s no = s
left_by s cut = s

-- `double_slash`; "After `//` empty lines are taken too"
abbrev pub slashes : Table → List ℕ → Ans Unit → Outcome
slashes t s (got u r) = was_read t (left_by r (while_fits line_end r))
slashes t s no = no_slashes s
slashes t s cut = not_read unread.Unended

abbrev pub slashes_at : Table → List ℕ → Outcome
slashes_at t s = slashes t s (tag (bytes "//") s)

-- LOCUS gave this length, or none
abbrev pub promised : May ℕ → ℕ → Bool
promised absent n = true
promised (is l) n = eqb l n

-- LOCUS gave this very length
abbrev pub counted : May ℕ → ℕ → Bool
counted absent n = false
counted (is l) n = eqb l n

-- ---- from the header on. `t` is the table without its letters

abbrev pub with_letters : Table → List ℕ → Table
with_letters t l =
    record {
      locus = t.locus;
      definition = t.definition;
      accession = t.accession;
      version = t.version;
      dblink = t.dblink;
      keywords = t.keywords;
      source = t.source;
      references = t.references;
      comments = t.comments;
      features = t.features;
      contig = t.contig;
      letters = l;
    }

-- `parse_seq_data`: 8 and 9; "Input may end without `//` only here, if the letters number the LOCUS length"
abbrev pub sequence : Table → Letters → Outcome
sequence t (at_slash l r) = pick (promised t.locus.length (length l)) (slashes_at (with_letters t l) r) (not_read unread.OtherLength)
sequence t (at_end l) = pick (counted t.locus.length (length l)) (was_read (with_letters t l) []) (not_read unread.Unended)
sequence t (bad_byte r) = not_read unread.BadLetter

abbrev pub after_origin : Table → List ℕ → Ans (List ℕ) → Outcome
after_origin t s (got u r) = sequence t (letters r)
after_origin t s no = slashes_at t s
after_origin t s cut = not_read unread.Unended

-- what stands between the header and ORIGIN, each part optional; cut where the input ends in one
abbrev pub list_of : {A : Type 0} → May (List A) → List A
list_of absent = []
list_of (is l) = l

pub record Middle : Type 0 where
  pub features : List Feature
  pub contig : May Contig

unfoldable pub middle : List ℕ → Ans Middle
middle s =
    bind (optional s (features s)) λ fs s. bind (optional s (base_count s)) λ _ s. bind (optional s (contig s)) λ c s.
    got (record { features = list_of fs; contig = c }) s

-- number 14, where the features end, and where CONTIG is tried: ahead of what stands after that
abbrev pub is_there : {A : Type 0} → May A → Bool
is_there absent = false
is_there (is a) = true

abbrev pub deep_after_count : Ans (May (List ℕ)) → Bool
deep_after_count (got c s) = deep_contig s
deep_after_count no = false
deep_after_count cut = false

abbrev pub deep_after : Ans (May (List Feature)) → Bool
deep_after (got fs s) = (is_there fs && deep_feature s) || deep_after_count (optional s (base_count s))
deep_after no = false
deep_after cut = false

unfoldable pub deep_in : List ℕ → Bool
deep_in s = deep_after (optional s (features s))

-- the table of a LOCUS line, header fields and sections, without letters
unfoldable pub table_from : Locus → List Field → Middle → Table
table_from l fs m =
    record {
      locus = l;
      definition = latest (text_in (bytes "DEFINITION")) fs;
      accession = latest (text_in (bytes "ACCESSION")) fs;
      version = latest (text_in (bytes "VERSION")) fs;
      dblink = latest (text_in (bytes "DBLINK")) fs;
      keywords = latest (text_in (bytes "KEYWORDS")) fs;
      source = latest source_in fs;
      references = every reference_in fs;
      comments = every (text_in (bytes "COMMENT")) fs;
      features = m.features;
      contig = m.contig;
      letters = [];
    }

abbrev pub after_header : Locus → List Field → Ans Middle → Outcome
after_header l fs (got m s) = after_origin (table_from l fs m) s (origin_tag s)
after_header l fs no = not_read unread.Unended
after_header l fs cut = not_read unread.Unended

-- "second DEFINITION": 5 stands where the header ends
abbrev pub once : List Field → Bool
once fs = leb (length (every (text_in (bytes "DEFINITION")) fs)) 1

abbrev pub header : Locus → List ℕ → Ans (List Field) → Outcome
header l s (got fs r) = pick (once fs) (pick (deep_in r) (not_read unread.TooDeep) (after_header l fs (middle r))) (not_read unread.TwoDefinitions)
header l s no = not_read unread.Unended
header l s cut = not_read unread.Unended

abbrev pub after_locus : Ans Locus → Outcome
after_locus (got l s) = header l s (while_fits header_field s)
after_locus no = not_read unread.NoLocus
after_locus cut = not_read unread.Unended

abbrev pub after_preamble : Ans Unit → Outcome
after_preamble (got u s) = after_locus (locus s)
after_preamble no = not_read unread.NoLocus
after_preamble cut = not_read unread.NoLocus

unfoldable pub read_record : List ℕ → Outcome
read_record s = after_preamble (preamble s)

-- the largest slice
abbrev pub most : ℕ
most = 16777216

-- "Reader: 3, 1, then the first trouble in file order": the record of a slice at a place, as `reader` reads it
abbrev pub placed : (List ℕ → Outcome) → List ℕ → ℕ → Outcome
placed reader s at =
    pick (leb (length s) most && leb at (length s)) (pick (eqb at (length s)) (not_read unread.AtEnd) (reader (drop at s))) (not_read unread.BadPlace)

unfoldable pub read_at : List ℕ → ℕ → Outcome
read_at s at = placed read_record s at
