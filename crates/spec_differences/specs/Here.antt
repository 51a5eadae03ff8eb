-- What docs/DIFFERENCES.md says under "Here", in its order, computed from the definitions by one statement over a list. Left out is the width of section 6, which every writing shows.
use Rattle.std.specs.Prelude.{ℕ, ◌-◌, Bool, true, false, cond, ◌≡◌, refl, List, [], ◌∷◌, ◌++◌, map, length, take, drop, replicate, Option, Some, None}
use Rattle.spec_format.specs.Bytes.{May, absent, is, bytes, decimal, spaces, pick, each, concat}
use Rattle.spec_format.specs.Bytes.{number, digits}
use Rattle.spec_format.specs.Dates.{month_name, date_text}
use Rattle.spec_format.specs.Features.{features_header, bare, escape, quoted_turn, quoted, value, value_of, qualifier, feature_from, feature}
use Rattle.spec_format.specs.Header.{field_text, field_bytes, field, reference, source, ignored_line, header_field, latest, every}
use Rattle.spec_format.specs.Locus.{preamble, tokens, date_of, date_token, locus_from, locus_of, locus_line, locus}
use Rattle.spec_format.specs.Origin.{origin_tag, letters}
use Rattle.spec_format.specs.Readers.{tag, until, line, line_end, members_up_to, end_up_to, members, end}
use Rattle.spec_format.specs.Numbers.{unread_number, unread_place}
use Rattle.spec_format.specs.Record.{Outcome, was_read, not_read, features, slashes_later, middle, deep_in, table_from, read_record, read_at}
use Rattle.spec_bases.specs.Bases.{set_of}
use Rattle.spec_format.specs.Strict.{stray, letters_from, record_by, read_by}
use Rattle.spec_format.specs.Table.{LocationRow, Feature, Contig, Table}
use Rattle.spec_format.specs.Location.{run, past, behind, base_number, bases, accession, leaf, plain, begin, members_in, location_from, reading, rows_in}
use Rattle.spec_format.specs.Deep.{so_far, deep_feature, deep_contig}
use Rattle.spec_format.specs.Rooms.{location_numbers}
use Rattle.spec_format.specs.Utf8.{chars, utf8}
use Rattle.spec_format.specs.WellFormed.{reference_texts, header_texts, locus_fine, qualifier_fine, feature_fine, letters_fine, well_formed}
use Rattle.spec_format.specs.Wrap.{fill, closing, lines_after, wrapped, wrap_text, last_comma, break_at, comma_lines, wrap_location}
use Rattle.spec_format.specs.Write.{length_text, white, blanked, words, joined, printed_name, locus_text, field_lines, reference_lines, header_lines}
use Rattle.spec_format.specs.declared.Date.{Date}
use Rattle.spec_format.specs.Write.{comma_key, bare_key, value_lines, qualifier_lines, feature_lines, features_lines, letter_lines, origin_lines, written}

-- an answer: what is computed, and what the page says
pub record Answer : Type 0 where
  pub got : List ℕ
  pub should : List ℕ

-- ---- reading

-- number and place
told : List ℕ → Outcome → List ℕ
told s (was_read t rest) = 0 ∷ (length s - length rest) ∷ []
told s (not_read why) = unread_number why ∷ unread_place why 0 ∷ []

answer : List ℕ → List ℕ
answer s = told s (read_at s 0)

strict_answer : List ℕ → List ℕ
strict_answer s = told s (read_by true s 0)

may_text_lem : May (List ℕ) → List ℕ
may_text_lem absent = bytes "-"
may_text_lem (is t) = t

may_number : May ℕ → List ℕ
may_number absent = bytes "-"
may_number (is n) = decimal n

may_date : Option Date → List ℕ
may_date None = bytes "-"
may_date (Some d) = date_text d

-- name, length, molecule type, topology, division, date
locus_values_lem : Outcome → List ℕ
locus_values_lem (was_read t rest) =
    may_text_lem t.locus.name ++ bytes " " ++ may_number t.locus.length ++ bytes " " ++ may_text_lem t.locus.molecule ++ bytes " " ++
    cond t.locus.circular (bytes "circular") (bytes "linear") ++ bytes " " ++ t.locus.division ++ bytes " " ++ may_date t.locus.date
locus_values_lem (not_read why) = unread_number why ∷ []

locus_read : List ℕ → List ℕ
locus_read l = locus_values_lem (read_at (l ++ bytes "\nORIGIN\n//\n") 0)

unk : List ℕ
unk = bytes "- - - linear UNK -"

-- a location's text, a blank, and the seven numbers of each of its rows
location_text : List ℕ → List LocationRow → List ℕ
location_text t rows = t ++ bytes " " ++ location_numbers rows

-- the first feature's location, or the number of a refusal
first_location : List Feature → List ℕ
first_location [] = bytes "none"
first_location (f ∷ fs) = location_text f.location f.rows

location_values : Outcome → List ℕ
location_values (was_read t rest) = first_location t.features
location_values (not_read why) = unread_number why ∷ []

location_read : List ℕ → List ℕ
location_read s = location_values (read_at (bytes "LOCUS x\nFEATURES  Location/Qualifiers\n" ++ s) 0)

-- CONTIG likewise
may_contig_lem : May Contig → List ℕ
may_contig_lem absent = bytes "none"
may_contig_lem (is c) = location_text c.text c.rows

contig_values : Outcome → List ℕ
contig_values (was_read t rest) = may_contig_lem t.contig
contig_values (not_read why) = unread_number why ∷ []

contig_read_lem : List ℕ → List ℕ
contig_read_lem l = contig_values (read_at (bytes "LOCUS x\nCONTIG " ++ l ++ bytes "\n//\n") 0)

-- a feature with that location, its only line, is refused with 7
seven : List ℕ → Answer
seven l = record { got = location_read (bytes " a " ++ l ++ bytes "\n//\n"); should = 7 ∷ [] }

-- or has it, with these numbers in its rows
located : List ℕ → List ℕ → Answer
located l numbers = record { got = location_read (bytes " a " ++ l ++ bytes "\n//\n"); should = l ++ bytes " " ++ numbers }

contig_located : List ℕ → List ℕ → Answer
contig_located l numbers = record { got = contig_read_lem l; should = l ++ bytes " " ++ numbers }

-- the row of a join( ) with that many rows inside
join_row : ℕ → List ℕ
join_row n = 5 ∷ 0 ∷ 0 ∷ 0 ∷ 0 ∷ 0 ∷ n ∷ []

-- join( n times, a base, and as many brackets
joins : ℕ → List ℕ
joins n = concat (replicate n (bytes "join(")) ++ bytes "1" ++ replicate n 41

-- number, place and letters of a record that ends so
lettered : List ℕ → Outcome → List ℕ
lettered s (was_read t rest) = 0 ∷ (length s - length rest) ∷ t.letters
lettered s (not_read why) = told s (not_read why)

origin_read : List ℕ → List ℕ
origin_read s = lettered s (read_at s 0)

-- ---- writing

-- a record with that name, length, feature and letters
table_of : List ℕ → ℕ → List ℕ → List ℕ → List ℕ → List ℕ → List ℕ → Table
table_of name count kind location key text letters =
    record {
      locus = record { name = is name; length = is count; molecule = absent; circular = false; division = bytes "SYN"; date = Some (record { day = 1; month = 3; year = 2024 }) };
      definition = absent;
      accession = absent;
      version = absent;
      dblink = absent;
      keywords = absent;
      source = absent;
      references = [];
      comments = [];
      features =
          record { kind = kind; location = location; qualifiers = record { key = key; value = is text } ∷ []; rows = rows_in false location } ∷ [];
      contig = absent;
      letters = letters;
    }

-- of 123 bases, with one qualifier
table : List ℕ → List ℕ → List ℕ → Table
table name key text = table_of name 123 (bytes "gene") (bytes "1") key text []

with_kind : List ℕ → List ℕ → Table
with_kind kind location = table_of (bytes "x") 123 kind location (bytes "note") (bytes "a") []

with_letters_lem : ℕ → List ℕ → Table
with_letters_lem count letters = table_of (bytes "x") count (bytes "gene") (bytes "1") (bytes "note") (bytes "a") letters

-- 11 where the table cannot be laid out at width 80, else the LOCUS line
line_or_11 : Bool → Table → List ℕ
line_or_11 truncate t = pick (well_formed 80 truncate false t) (locus_text truncate false t) (11 ∷ [])

eleven : Table → Answer
eleven t = record { got = line_or_11 false t; should = 11 ∷ [] }

lines_of : ℕ → List ℕ → List ℕ → List ℕ
lines_of W key text = qualifier_lines W (record { key = key; value = is text })

-- a short value of a key at width 80
bare_line : List ℕ → Answer
bare_line key = record { got = lines_of 80 key (bytes "[1]"); should = spaces 21 ++ bytes "/" ++ key ++ bytes "=[1]\n" }

pub answers : List Answer
answers =
    -- 1
    record { got = answer (bytes "LOCUS x\n//\nLOCUS y\n//\n"); should = 0 ∷ 11 ∷ [] } ∷
    record { got = answer (bytes "LOCUS x\n//\nVERSION y\nORIGIN\na//\n"); should = 0 ∷ 11 ∷ [] } ∷
    -- 2
    record { got = locus_read (bytes "LOCUS x 0 bp DNA linear"); should = unk } ∷
    record { got = locus_read (bytes "LOCUS x 0 bp DNA linear SYN"); should = unk } ∷
    record { got = locus_read (bytes "LOCUS x 0 bp DNA linear 01-JAN-2024"); should = unk } ∷
    record { got = locus_read (bytes "LOCUS x 0 bp DNA SYN"); should = unk } ∷
    record { got = locus_read (bytes "LOCUS x 0 bp DNA SYN 01-JAN-2024"); should = unk } ∷
    record { got = locus_read (bytes "LOCUS x 0 bp DNA"); should = unk } ∷
    record { got = locus_read (bytes "LOCUS x 0 bp linear SYN 01-JAN-2024"); should = bytes "x 0 - linear SYN 01-JAN-2024" } ∷
    record { got = locus_read (bytes "LOCUS x 0 bp DNA\tlinear SYN 01-JAN-2024"); should = bytes "x 0 DNA linear SYN 01-JAN-2024" } ∷
    record { got = locus_read (bytes "LOCUS x 0 bp DNA" ++ 11 ∷ [] ++ bytes "linear SYN 01-JAN-2024"); should = unk } ∷
    record { got = locus_read (bytes "LOCUS x 0 bp D\nA linear SYN 01-JAN-2024"); should = unk } ∷
    record { got = locus_read (bytes "LOCUS " ++ 195 ∷ 169 ∷ [] ++ bytes " 0 bp DNA linear SYN 01-JAN-2024"); should = unk } ∷
    record { got = locus_read (bytes "LOCUS " ++ 127 ∷ [] ++ bytes " 0 bp DNA linear SYN 01-JAN-2024"); should = unk } ∷
    record { got = locus_read (bytes "LOCUS x 0 bp " ++ 195 ∷ 169 ∷ [] ++ bytes " linear SYN 01-JAN-2024"); should = unk } ∷
    record { got = locus_read (bytes "LOCUS x 0 bp DNA RNA linear SYN 01-JAN-2024"); should = unk } ∷
    record { got = locus_read (bytes "LOCUS x 00000000000 bp DNA linear SYN 01-JAN-2024"); should = unk } ∷
    record { got = locus_read (bytes "LOCUS x 4294967296 bp DNA linear SYN 01-JAN-2024"); should = unk } ∷
    record { got = locus_read (bytes "LOCUS x 0 bp DNA tandem SYN 01-JAN-2024"); should = unk } ∷
    record { got = locus_read (bytes "LOCUS x 0 bp DNA linear S1 01-JAN-2024"); should = bytes "x 0 DNA linear S1 01-JAN-2024" } ∷
    record { got = locus_read (bytes "LOCUS x 0 bp DNA linear S.N 01-JAN-2024"); should = bytes "x 0 DNA linear S.N 01-JAN-2024" } ∷
    record { got = locus_read (bytes "LOCUS x 0 bp DNA linear SYN 01-JAN-24"); should = unk } ∷
    record { got = locus_read (bytes "LOCUS x 0 bp DNA linear SYN 01-JAN-12024"); should = unk } ∷
    record { got = locus_read (bytes "LOCUS x 0 bp DNA linear SYN 01-JAN-+024"); should = unk } ∷
    record { got = locus_read (bytes "LOCUS x 0 bp DNA linear SYN 001-JAN-2024"); should = unk } ∷
    record { got = locus_read (bytes "LOCUS x 0 bp DNA linear SYN 32-JAN-2024"); should = unk } ∷
    record { got = locus_read (bytes "LOCUS x 0 bp DNA linear SYN 00-JAN-2024"); should = unk } ∷
    record { got = locus_read (bytes "LOCUS x 0 bp DNA linear SYN 01-Jan-2024"); should = unk } ∷
    record { got = locus_read (bytes "LOCUS x 0 bp DNA linear SYN 01/JAN/2024"); should = unk } ∷
    record { got = locus_read (bytes "LOCUS x 0 bp DNA linear SYN 01-JAN"); should = unk } ∷
    record { got = locus_read (bytes "LOCUS x 0 bp DNA linear SYN 01-JAN-2024 x"); should = unk } ∷
    record { got = locus_read (bytes "LOCUS x 0 bp DNA SYN DNA"); should = unk } ∷
    record { got = answer (bytes "LOCUS x"); should = 2 ∷ 0 ∷ [] } ∷
    record { got = answer (bytes "LOC"); should = 4 ∷ 0 ∷ [] } ∷
    -- 3, what the Rust takes and this does not: anything after a location; a sign; 0 and leading zeros; a number that is too large
    seven (bytes "1x") ∷
    seven (bytes "1..x") ∷
    seven (bytes "5.9") ∷
    seven (bytes "1..<5") ∷
    seven (bytes "+1") ∷
    seven (bytes "-1") ∷
    seven (bytes "0") ∷
    seven (bytes "01") ∷
    seven (bytes "4294967296") ∷
    -- forms that are none, gap( ) in a feature among them
    seven (bytes "bond(1,2)") ∷
    seven (bytes "one-of(1,2)") ∷
    seven (bytes "gap(5)") ∷
    -- an accession without a version, of other bytes, alone, and so damaged locations
    seven (bytes "A:1") ∷
    seven (bytes "A-B.1:1") ∷
    seven (bytes "A.1") ∷
    seven (bytes "x") ∷
    seven (bytes "<1") ∷
    seven (bytes ">1..5") ∷
    seven (bytes "(1.5)..7") ∷
    seven (bytes "join(1") ∷
    seven (bytes "complement(1,2)") ∷
    seven (bytes "Join(1)") ∷
    seven (bytes "join(1,2..<5)") ∷
    -- an accession before a word
    seven (bytes "A.1:join(1,2)") ∷
    record { got = contig_read_lem (bytes "A.1:gap(5)"); should = 7 ∷ [] } ∷
    -- more than 16 words open, and as many as may be
    record { got = location_read (bytes " a " ++ joins 17 ++ bytes "\n//\n"); should = 14 ∷ [] } ∷
    record { got = contig_read_lem (joins 17); should = 14 ∷ [] } ∷
    located (joins 16) (1 ∷ 0 ∷ 1 ∷ 1 ∷ 0 ∷ 0 ∷ 0 ∷ each join_row (1 ∷ 2 ∷ 3 ∷ 4 ∷ 5 ∷ 6 ∷ 7 ∷ 8 ∷ 9 ∷ 10 ∷ 11 ∷ 12 ∷ 13 ∷ 14 ∷ 15 ∷ 16 ∷ [])) ∷
    -- blanks and bytes outside 33 to 126, and what both refuse
    seven (bytes "1 2") ∷
    seven (bytes "1..2 ") ∷
    seven (bytes "join(1, 2)") ∷
    seven (195 ∷ 169 ∷ []) ∷
    seven (bytes ":") ∷
    record { got = location_read (bytes " a\n 1\n//\n"); should = 7 ∷ [] } ∷
    record { got = location_read (bytes " /a 1\n//\n"); should = 7 ∷ [] } ∷
    record { got = location_read (bytes " " ++ 195 ∷ 169 ∷ [] ++ bytes " 1\n//\n"); should = 7 ∷ [] } ∷
    record { got = location_read (bytes " a" ++ 127 ∷ [] ++ bytes " 1\n//\n"); should = 7 ∷ [] } ∷
    record { got = answer (bytes "LOCUS x\nCONTIG 1 2\n//\n"); should = 7 ∷ 0 ∷ [] } ∷
    -- taken by both, and read otherwise by the Rust: n^m that are no neighbours; an accession that begins with a digit; gap( ) with another text
    located (bytes "5^9") (3 ∷ 0 ∷ 5 ∷ 9 ∷ 0 ∷ 0 ∷ 0 ∷ []) ∷
    located (bytes "join(5^9,7)") (3 ∷ 0 ∷ 5 ∷ 9 ∷ 0 ∷ 0 ∷ 0 ∷ 1 ∷ 0 ∷ 7 ∷ 7 ∷ 0 ∷ 0 ∷ 0 ∷ 5 ∷ 0 ∷ 0 ∷ 0 ∷ 0 ∷ 0 ∷ 2 ∷ []) ∷
    located (bytes "9.1:5") (1 ∷ 0 ∷ 5 ∷ 5 ∷ 0 ∷ 3 ∷ 0 ∷ []) ∷
    located (bytes "join(9.1:5,7)") (1 ∷ 0 ∷ 5 ∷ 5 ∷ 5 ∷ 3 ∷ 0 ∷ 1 ∷ 0 ∷ 7 ∷ 7 ∷ 0 ∷ 0 ∷ 0 ∷ 5 ∷ 0 ∷ 0 ∷ 0 ∷ 0 ∷ 0 ∷ 2 ∷ []) ∷
    contig_located (bytes "gap(x)") (7 ∷ 0 ∷ 0 ∷ 0 ∷ 4 ∷ 1 ∷ 0 ∷ []) ∷
    contig_located (bytes "join(A.1:1..5,gap(x))") (2 ∷ 0 ∷ 1 ∷ 5 ∷ 5 ∷ 3 ∷ 0 ∷ 7 ∷ 0 ∷ 0 ∷ 0 ∷ 18 ∷ 1 ∷ 0 ∷ 5 ∷ 0 ∷ 0 ∷ 0 ∷ 0 ∷ 0 ∷ 2 ∷ []) ∷
    -- and what the Rust prints anew, kept here
    located (bytes "5..5") (2 ∷ 0 ∷ 5 ∷ 5 ∷ 0 ∷ 0 ∷ 0 ∷ []) ∷
    contig_located (bytes "gap(+05)") (7 ∷ 0 ∷ 0 ∷ 0 ∷ 4 ∷ 3 ∷ 0 ∷ []) ∷
    -- 4
    record { got = lines_of 79 (bytes "note") (replicate 50 97 ++ bytes "\" b"); should = spaces 21 ++ bytes "/note=\"" ++ replicate 50 97 ++ bytes "\n" ++ spaces 21 ++ bytes "\"\" b\"\n" } ∷
    record { got = lines_of 79 (bytes "note") (replicate 50 97 ++ bytes "\""); should = spaces 21 ++ bytes "/note=\"" ++ replicate 50 97 ++ bytes "\n" ++ spaces 21 ++ bytes "\"\"\"\n" } ∷
    -- 5
    seven (bytes "-9223372036854775808") ∷
    record { got = location_read (bytes " a 1\n   " ++ 255 ∷ []); should = 2 ∷ [] } ∷
    record { got = line_or_11 true (table (replicate 23 97 ++ 195 ∷ 169 ∷ [] ++ bytes "a") (bytes "note") (bytes "a")); should = 11 ∷ [] } ∷
    eleven (table (bytes "x") (replicate 56 97) (bytes "a")) ∷
    eleven (with_kind (replicate 74 97) (bytes "1")) ∷
    eleven (with_letters_lem 5 (bytes "acgt")) ∷
    eleven (table [] (bytes "note") (bytes "a")) ∷
    eleven (table (195 ∷ 169 ∷ []) (bytes "note") (bytes "a")) ∷
    eleven (table (bytes "a\tb") (bytes "note") (bytes "a")) ∷
    eleven (with_kind [] (bytes "1")) ∷
    eleven (with_kind (bytes "a b") (bytes "1")) ∷
    eleven (with_kind (bytes "/a") (bytes "1")) ∷
    eleven (with_kind (195 ∷ 169 ∷ []) (bytes "1")) ∷
    eleven (table (bytes "x") [] (bytes "a")) ∷
    eleven (table (bytes "x") (bytes "a=b") (bytes "a")) ∷
    eleven (table (bytes "x") (bytes "a b") (bytes "a")) ∷
    eleven (with_kind (bytes "gene") []) ∷
    eleven (with_kind (bytes "gene") (bytes "1 2")) ∷
    eleven (table (bytes "x") (bytes "anticodon") []) ∷
    eleven (table (bytes "x") (bytes "anticodon") (bytes "a b")) ∷
    eleven (with_letters_lem 4 (bytes "acg1")) ∷
    record { got = take 43 (line_or_11 true (table (replicate 27 97 ++ 255 ∷ []) (bytes "note") (bytes "a"))); should = bytes "LOCUS       " ++ replicate 24 97 ++ bytes " 123 bp" } ∷
    record { got = strict_answer (bytes "LOCUS x\nORIGIN\nx//\n"); should = 16 ∷ 0 ∷ [] } ∷
    record { got = strict_answer (bytes "LOCUS x 0 bp DNA linear SYN 01-MAR-2024\nORIGIN\nx//\n"); should = 16 ∷ 0 ∷ [] } ∷
    record { got = strict_answer (bytes "LOCUS x\nORIGIN\nx"); should = 16 ∷ 0 ∷ [] } ∷
    record { got = strict_answer (bytes "LOCUS x\nORIGIN\nx-//\n"); should = 16 ∷ 0 ∷ [] } ∷
    record { got = strict_answer (bytes "LOCUS x\nORIGIN\n-x//\n"); should = 9 ∷ 0 ∷ [] } ∷
    -- 6
    record { got = drop 55 (line_or_11 false (table (bytes "x") (bytes "note") (bytes "a"))); should = bytes "linear   SYN 01-MAR-2024\n" } ∷
    bare_line (bytes "citation") ∷
    bare_line (bytes "compare") ∷
    bare_line (bytes "direction") ∷
    bare_line (bytes "mod_base") ∷
    bare_line (bytes "rpt_unit_range") ∷
    bare_line (bytes "tag_peptide") ∷
    -- 7
    record { got = origin_read (bytes "LOCUS x 4 bp DNA linear SYN 01-MAR-2024\nORIGIN 1 bp upstream\n        1 acgt\n//\n"); should = 0 ∷ 79 ∷ bytes "acgt" } ∷
    record { got = origin_read (bytes "LOCUS x\nORIGIN 1 bp upstream\n        1 acgt\n//\n"); should = 0 ∷ 47 ∷ bytes "acgt" } ∷
    record { got = origin_read (bytes "LOCUS x 0 bp DNA linear SYN 01-MAR-2024\nORIGIN x\n       a\n//\n"); should = 8 ∷ 0 ∷ [] } ∷
    record { got = origin_read (bytes "LOCUS x\nORIGIN x\n       a-b\n//\n"); should = 9 ∷ 0 ∷ [] } ∷
    record { got = origin_read (bytes "LOCUS x\nORIGIN x\n       a/b\n//\n"); should = 7 ∷ 0 ∷ [] } ∷
    record { got = origin_read (bytes "LOCUS x\nORIGIN x\n       //\n//\n"); should = 0 ∷ 27 ∷ [] } ∷
    record { got = origin_read (bytes "LOCUS x\nORIGIN x\n       " ++ 255 ∷ bytes "\n//\n"); should = 9 ∷ 0 ∷ [] } ∷
    record { got = origin_read (bytes "LOCUS x 0 bp DNA linear SYN 01-MAR-2024\nORIGIN x\n"); should = 0 ∷ 49 ∷ [] } ∷
    []

-- what the answers compute by: to unfold one of these names is to unfold all that its line names
the_locations : Bool
unfolding number run past behind base_number bases accession leaf plain begin members_in location_from reading location_numbers so_far deep_feature deep_contig deep_in
the_locations = true

the_reader : Bool
unfolding features_header bare escape quoted_turn quoted value value_of qualifier feature_from feature field_text field_bytes field reference source ignored_line header_field latest every preamble tokens date_of date_token locus_from locus_of locus_line locus origin_tag letters tag until line line_end members_up_to end_up_to members end features slashes_later middle table_from read_record read_at the_locations
the_reader = true

the_rules : Bool
unfolding chars utf8 reference_texts header_texts locus_fine qualifier_fine feature_fine letters_fine well_formed
the_rules = true

the_writer : Bool
unfolding digits month_name date_text fill closing lines_after wrapped wrap_text last_comma break_at comma_lines wrap_location length_text white blanked words joined printed_name locus_text field_lines reference_lines header_lines comma_key bare_key value_lines qualifier_lines feature_lines features_lines letter_lines origin_lines written
the_writer = true

-- THE PAGE'S ANSWERS ARE THOSE OF THE DEFINITIONS
pub answers_hold : map (λ a. a.got) answers ≡ map (λ a. a.should) answers
unfolding the_reader the_rules the_writer set_of stray letters_from record_by read_by told answer strict_answer may_text_lem may_number may_date locus_values_lem locus_read unk location_text first_location location_values location_read may_contig_lem contig_values contig_read_lem seven located contig_located join_row joins lettered origin_read table_of table with_kind with_letters_lem line_or_11 eleven lines_of bare_line answers
answers_hold = refl
