-- Each keeping rule earns its place: for each, a table that breaks it and no other, which is well-formed and does not come back, beside the same
-- table mended, which keeps all rules and comes back. One statement over a list; what is stricter than needed is said in docs/DECISIONS.md. The rule on locations has
-- none: no well-formed table breaks it (`location_rule_holds`).
use Rattle.std.specs.Prelude.{ℕ, ◌+◌, Bool, true, false, ◌&&◌, ◌≡◌, refl, List, [], ◌∷◌, ◌++◌, map, length, replicate, Option, Some, None}
use Rattle.spec_format.specs.Bytes.{May, absent, is, bytes, same}
use Rattle.spec_format.specs.Table.{Locus, Reference, Qualifier, LocationRow, Feature, Table}
use Rattle.spec_format.specs.Location.{run, past, behind, base_number, bases, accession, leaf, plain as plain-location, begin, members_in, location_from, reading, rows_in, locates}
use Rattle.spec_format.specs.Deep.{so_far, deep_feature, deep_contig}
use Rattle.spec_format.specs.Record.{Outcome, was_read, not_read}
use Rattle.spec_format.specs.Answers.{keeping_answer}
use Rattle.spec_format.specs.Numbers.{write_number}
use Rattle.spec_format.specs.Bytes.{digits}
use Rattle.spec_format.specs.Bytes.{number as decimal}
use Rattle.spec_format.specs.Dates.{month_name, date_text}
use Rattle.spec_format.specs.Features.{features_header, bare, escape, quoted_turn, quoted, value, value_of, qualifier, feature_from, feature}
use Rattle.spec_format.specs.Header.{field_text, field_bytes, field, reference, source, ignored_line, header_field, latest, every}
use Rattle.spec_format.specs.Keeping.{no_slash, locus_kept, lines_kept, header_kept, bare_kept, value_kept, qualifier_kept, feature_kept, keeps}
use Rattle.spec_format.specs.Locus.{preamble, tokens, date_of, date_token, locus_from, locus_of, locus_line, locus}
use Rattle.spec_format.specs.Origin.{origin_tag, letters}
use Rattle.spec_format.specs.Readers.{tag, until, line, line_end, members_up_to, end_up_to, members, end}
use Rattle.spec_format.specs.Record.{features, slashes_later, middle, deep_in, table_from, read_record, read_at}
use Rattle.spec_format.specs.Rooms.{location_numbers, location_count, location_row_in, qualifier_in, feature_in, locations_read, location_fine, qualifier_row_fine, qualifiers_fine, feature_row_fine}
use Rattle.spec_format.specs.Rooms.{texts_of, rows_of, feature_text, feature_rows, qualifier_rows, qualifier_count, pieces_text, pieces_row, layout, sizes}
use Rattle.spec_format.specs.Rooms.{head_of, rows_from, table_of, rows_fine, features_fine, lengths_fine, head_fine, counts_fine, rooms_fine}
use Rattle.spec_format.specs.Utf8.{chars, utf8}
use Rattle.spec_format.specs.WellFormed.{kind_fine, reference_texts, header_texts, locus_fine, qualifier_fine, feature_fine, letters_fine, well_formed}
use Rattle.spec_format.specs.Wrap.{fill, closing, lines_after, wrapped, wrap_text, last_comma, break_at, comma_lines, wrap_location}
use Rattle.spec_format.specs.Write.{length_text, white, blanked, words, joined, printed_name, locus_text, field_lines, reference_lines, header_lines}
use Rattle.spec_location.specs.Tests.{and_left, and_right}
use Rattle.spec_location.specs.Bytes.{locates_slash}
use Rattle.spec_format.specs.declared.Date.{Date}
use Rattle.spec_format.specs.Write.{comma_key, bare_key, value_lines, qualifier_lines, feature_lines, features_lines, letter_lines, origin_lines, written}

-- ---- equal texts, in tables whose shapes the examples have

same_may : May (List ℕ) → May (List ℕ) → Bool
same_may absent absent = true
same_may absent (is b) = false
same_may (is a) absent = false
same_may (is a) (is b) = same a b

same_number : May ℕ → May ℕ → Bool
same_number absent absent = true
same_number absent (is b) = false
same_number (is a) absent = false
same_number (is a) (is b) = same (a ∷ []) (b ∷ [])

same_date : Option Date → Option Date → Bool
same_date None None = true
same_date None (Some b) = false
same_date (Some a) None = false
same_date (Some a) (Some b) = same (a.day ∷ a.month ∷ a.year ∷ []) (b.day ∷ b.month ∷ b.year ∷ [])

same_locus : Locus → Locus → Bool
same_locus a b =
    same_may a.name b.name && (same_number a.length b.length && (same_may a.molecule b.molecule && (same a.division b.division &&
    same_date a.date b.date)))

same_pubmed : List Reference → List Reference → Bool
same_pubmed [] [] = true
same_pubmed [] (b ∷ ys) = false
same_pubmed (a ∷ xs) [] = false
same_pubmed (a ∷ xs) (b ∷ ys) = same_may a.pubmed b.pubmed && same_pubmed xs ys

same_qualifiers : List Qualifier → List Qualifier → Bool
same_qualifiers [] [] = true
same_qualifiers [] (b ∷ ys) = false
same_qualifiers (a ∷ xs) [] = false
same_qualifiers (a ∷ xs) (b ∷ ys) = same a.key b.key && (same_may a.value b.value && same_qualifiers xs ys)

same_features : List Feature → List Feature → Bool
same_features [] [] = true
same_features [] (b ∷ ys) = false
same_features (a ∷ xs) [] = false
same_features (a ∷ xs) (b ∷ ys) =
    same a.kind b.kind && (same a.location b.location && (same_qualifiers a.qualifiers b.qualifiers &&
    (same (location_numbers a.rows) (location_numbers b.rows) && same_features xs ys)))

same_table : Table → Table → Bool
same_table a b =
    same_locus a.locus b.locus && (same_may a.definition b.definition && (same_pubmed a.references b.references &&
    same_features a.features b.features))

-- what is written is read as the same table
back : Table → Outcome → Bool
back t (was_read u rest) = same_table t u
back t (not_read why) = false

pub comes_back : ℕ → Bool → Bool → Table → Bool
comes_back W truncate escape t = back t (read_record (written W truncate escape t))

-- ---- the tables: a value for each place that a rule speaks of

table : Locus → May (List ℕ) → List Reference → List Feature → Table
table l d rs fs =
    record {
      locus = l;
      definition = d;
      accession = absent;
      version = absent;
      dblink = absent;
      keywords = absent;
      source = absent;
      references = rs;
      comments = [];
      features = fs;
      contig = absent;
      letters = [];
    }

day : Option Date
day = Some (record { day = 1; month = 3; year = 2024 })

locus_of_lem : May (List ℕ) → May ℕ → May (List ℕ) → List ℕ → Option Date → Locus
locus_of_lem n l m v d = record { name = n; length = l; molecule = m; circular = true; division = v; date = d }

with_locus : May (List ℕ) → May ℕ → May (List ℕ) → List ℕ → Option Date → Table
with_locus n l m v d = table (locus_of_lem n l m v d) absent [] []

plain : Locus
plain = locus_of_lem (is (bytes "P318")) (is 12) (is (bytes "DNA")) (bytes "SYN") day

named : List ℕ → Table
named n = with_locus (is n) (is 123) (is (bytes "DNA")) (bytes "SYN") day

pub with_definition : List ℕ → Table
with_definition d = table plain (is d) [] []

with_pubmed : List ℕ → Table
with_pubmed p =
    table plain absent
    (record { text = bytes "1"; authors = absent; consrtm = absent; title = bytes "T"; journal = absent; pubmed = is p; remark = absent } ∷ []) []

-- a feature from base 1 to 12
with_feature : List ℕ → List Qualifier → List LocationRow → Table
with_feature k qs rows = table plain absent [] (record { kind = k; location = bytes "1..12"; qualifiers = qs; rows = rows } ∷ [])

its_rows : List LocationRow
its_rows = rows_in false (bytes "1..12")

with_kind : List ℕ → Table
with_kind k = with_feature k (record { key = bytes "note"; value = is (bytes "n") } ∷ []) its_rows

with_value : List ℕ → List ℕ → Table
with_value q v = with_feature (bytes "gene") (record { key = q; value = is v } ∷ []) its_rows

-- ---- the examples: the switches with which the broken one is written; the broken table, and the mended one

pub record Example : Type 0 where
  pub truncate : Bool
  pub escape : Bool
  pub broken : Table
  pub mended : Table

rule : Table → Table → Example
rule b m = record { truncate = false; escape = false; broken = b; mended = m }

pub examples : List Example
examples =
    -- truncation off
    record { truncate = true; escape = false; broken = named (replicate 25 97); mended = named (replicate 24 97) } ∷
    -- escaping off: white space is no byte 32 here, but U+3000
    record { truncate = false; escape = true; broken = named (bytes "a" ++ 227 ∷ 128 ∷ 128 ∷ [] ++ bytes "b"); mended = named (bytes "a_b") } ∷
    -- name present
    rule (with_locus absent (is 12) absent (bytes "SYN") day) (named (bytes "UNTITLED")) ∷
    -- length present
    rule (with_locus (is (bytes "P")) absent absent (bytes "SYN") day) (with_locus (is (bytes "P")) (is 0) absent (bytes "SYN") day) ∷
    -- date present
    rule (with_locus (is (bytes "P")) (is 0) absent (bytes "SYN") None) (with_locus (is (bytes "P")) (is 0) absent (bytes "SYN") day) ∷
    -- name without `:`
    rule (named (bytes "a:b")) (named (bytes "a.b")) ∷
    -- name spaceless
    rule (named (bytes "a b")) (named (bytes "a_b")) ∷
    -- division not empty
    rule (with_locus (is (bytes "P")) (is 0) absent [] day) (with_locus (is (bytes "P")) (is 0) absent (bytes "SYN") day) ∷
    -- division spaceless
    rule (with_locus (is (bytes "P")) (is 0) absent (bytes "S N") day) (with_locus (is (bytes "P")) (is 0) absent (bytes "SYN") day) ∷
    -- molecule type not empty
    rule (with_locus (is (bytes "P")) (is 0) (is []) (bytes "SYN") day) (with_locus (is (bytes "P")) (is 0) absent (bytes "SYN") day) ∷
    -- molecule type spaceless
    rule (with_locus (is (bytes "P")) (is 0) (is (bytes "D A")) (bytes "SYN") day) (with_locus (is (bytes "P")) (is 0) (is (bytes "DNA")) (bytes "SYN") day) ∷
    -- kinds at most 15 bytes
    rule (with_kind (replicate 16 97)) (with_kind (replicate 15 97)) ∷
    -- comma-broken values without `/`
    rule (with_value (bytes "anticodon") (replicate 28 49 ++ bytes "/2")) (with_value (bytes "anticodon") (replicate 28 49 ++ bytes ".2")) ∷
    -- comma-broken values do not begin with a quote
    rule (with_value (bytes "anticodon") (bytes "\"a\"")) (with_value (bytes "anticodon") (bytes "a")) ∷
    -- header texts: no CR
    rule (with_definition (bytes "a\rb")) (with_definition (bytes "ab")) ∷
    -- header texts: no final LF
    rule (with_definition (bytes "a\n")) (with_definition (bytes "a")) ∷
    -- header texts: each line shorter than W
    rule (with_definition (replicate 47 97 ++ bytes " b")) (with_definition (replicate 46 97 ++ bytes "b")) ∷
    -- header texts do not begin with a space
    rule (with_definition (bytes " a")) (with_definition (bytes "a")) ∷
    -- PUBMED has no LF
    rule (with_pubmed (bytes "1\n2")) (with_pubmed (bytes "12")) ∷
    -- quoted values: no CR
    rule (with_value (bytes "note") (bytes "a\rb")) (with_value (bytes "note") (bytes "ab")) ∷
    -- quoted values: no final LF
    rule (with_value (bytes "note") (bytes "a\n")) (with_value (bytes "note") (bytes "a")) ∷
    -- quoted values: each line shorter than W, with indent, key, quote and escapes
    rule (with_value (bytes "note") (replicate 30 97 ++ bytes "\"")) (with_value (bytes "note") (replicate 29 97 ++ bytes "\"")) ∷
    -- bare values: no CR
    rule (with_value (bytes "number") (bytes "1\r2")) (with_value (bytes "number") (bytes "12")) ∷
    -- bare values: no LF
    rule (with_value (bytes "number") (bytes "1\n2")) (with_value (bytes "number") (bytes "12")) ∷
    -- bare values: no quote first
    rule (with_value (bytes "number") (bytes "\"1\"")) (with_value (bytes "number") (bytes "1")) ∷
    -- bare values: the line shorter than W
    rule (with_value (bytes "number") (replicate 31 49 ++ bytes " 2")) (with_value (bytes "number") (replicate 29 49 ++ bytes "2")) ∷
    -- translation: no byte below 33
    rule (with_value (bytes "translation") (bytes "a\nb")) (with_value (bytes "translation") (bytes "ab")) ∷
    []

-- the broken one is well-formed, breaks a rule and does not come back; the mended one is well-formed, breaks none and comes back
pub verdict : Example → List Bool
verdict e =
    well_formed 60 e.truncate e.escape e.broken ∷ keeps 60 e.truncate e.escape e.broken ∷
    comes_back 60 e.truncate e.escape e.broken ∷ well_formed 60 false false e.mended ∷ keeps 60 false false e.mended ∷
    comes_back 60 false false e.mended ∷ []

-- ---- what the examples compute by, named once: to unfold one of these names is to unfold all that its line names

the_tables : Bool
unfolding same_may same_number same_date same_locus same_pubmed same_qualifiers same_features same_table back comes_back table day locus_of_lem with_locus plain named with_definition with_pubmed with_feature its_rows with_kind with_value
the_tables = true

the_locations : Bool
unfolding decimal run past behind base_number bases accession leaf plain-location begin members_in location_from reading location_numbers so_far deep_feature deep_contig deep_in
the_locations = true

the_reader : Bool
unfolding features_header bare escape quoted_turn quoted value value_of qualifier feature_from feature field_text field_bytes field reference source ignored_line header_field latest every preamble tokens date_of date_token locus_from locus_of locus_line locus origin_tag letters tag until line line_end members_up_to end_up_to members end features slashes_later middle table_from read_record read_at the_locations
the_reader = true

the_writer : Bool
unfolding decimal digits month_name date_text fill closing lines_after wrapped wrap_text last_comma break_at comma_lines wrap_location length_text white blanked words joined printed_name locus_text field_lines reference_lines header_lines comma_key bare_key value_lines qualifier_lines feature_lines features_lines letter_lines origin_lines written
the_writer = true

the_rules : Bool
unfolding chars utf8 reference_texts header_texts locus_fine qualifier_fine feature_fine letters_fine well_formed locus_kept lines_kept header_kept bare_kept value_kept qualifier_kept feature_kept keeps
the_rules = true

the_rooms : Bool
unfolding rooms_fine lengths_fine head_fine counts_fine rows_fine qualifier_row_fine qualifiers_fine feature_row_fine features_fine location_fine table_of layout head_of sizes rows_from texts_of rows_of feature_text feature_rows qualifier_rows qualifier_count location_count location_row_in qualifier_in feature_in pieces_text pieces_row
the_rooms = true

pub each_rule_earns_its_place : map verdict examples ≡ map (λ e. true ∷ false ∷ false ∷ true ∷ true ∷ true ∷ []) examples
unfolding the_reader the_writer the_rules the_tables rule examples verdict
each_rule_earns_its_place = refl

-- ---- where a rule is stricter than needed: these break one, and come back all the same

pub stricter : List Table
stricter =
    -- a header line of exactly W; an inner line of a quoted value of exactly W; a bare value whose line is exactly W
    with_definition (replicate 48 97) ∷
    with_value (bytes "note") (replicate 32 97 ++ bytes "\nb") ∷
    with_value (bytes "number") (replicate 31 49) ∷
    -- a `/` in a comma-broken value that begins no line
    with_value (bytes "anticodon") (bytes "1/2") ∷
    -- a long kind whose feature has no further line
    with_feature (replicate 16 97) [] its_rows ∷
    -- a translation with a quote, a tab, a space that begins no line, a byte above 126
    with_value (bytes "translation") (bytes "a\"b") ∷
    with_value (bytes "translation") (bytes "a\tb") ∷
    with_value (bytes "translation") (bytes "a b") ∷
    with_value (bytes "translation") (195 ∷ 169 ∷ []) ∷
    []

pub stricter_than_needed :
    map (λ t. well_formed 60 false false t ∷ keeps 60 false false t ∷ comes_back 60 false false t ∷ []) stricter ≡
    map (λ t. true ∷ false ∷ true ∷ []) stricter
unfolding the_reader the_writer the_rules the_tables rule stricter verdict
stricter_than_needed = refl

-- ---- the width: a table that breaks a rule is refused by 13 at 60 to 132 alone, by 12 below and above

pub final_feed : Table
final_feed = with_definition (bytes "a\n")

pub numbers_by_width :
    map (λ W. write_number (keeping_answer W false false (layout final_feed) (head_of final_feed) 0)) (20 ∷ 59 ∷ 60 ∷ 132 ∷ 133 ∷ []) ≡
    12 ∷ 12 ∷ 13 ∷ 13 ∷ 12 ∷ []
unfolding the_reader the_writer the_rules the_tables the_rooms final_feed keeping_answer
numbers_by_width = refl

-- rules are held against the width that is written at: this keeps the rules of 132, and does not come back at 60
pub rules_of_another_width :
    keeps 132 false false (with_definition (replicate 47 97 ++ bytes " b")) ∷ comes_back 60 false false (with_definition (replicate 47 97 ++ bytes " b")) ∷ [] ≡
    true ∷ false ∷ []
unfolding the_reader the_writer the_rules the_tables
rules_of_another_width = refl

-- and where the width alone is too small: these keep the rules of a width of 20, and come back all the same
pub narrow : List Table
narrow =
    with_definition (bytes "abcdefg") ∷
    with_feature (replicate 13 97) [] its_rows ∷
    []

pub narrower_than_needed :
    map (λ t. well_formed 20 false false t ∷ keeps 20 false false t ∷ comes_back 20 false false t ∷ []) narrow ≡
    map (λ t. true ∷ true ∷ true ∷ []) narrow
unfolding the_reader the_writer the_rules the_tables narrow
narrower_than_needed = refl

-- ---- location rows (document 02, ticket 1)

-- number 11 asks for a reading, which has no `/`
pub location_rule_holds : (W : ℕ) (f : Feature) → feature_fine W f ≡ true → no_slash f.location ≡ true
unfolding feature_fine
location_rule_holds W f h =
    locates_slash f.location (and_left (locates false f.location) _ (and_right (kind_fine W f.kind) _ h))

-- rows that are not those of the text: such a table is well-formed and keeps the rules, and does not come back; it is 10
pub other_rows : Table
other_rows = with_feature (bytes "gene") [] (rows_in false (bytes "1..13"))

pub rows_earn_their_place :
    well_formed 60 false false other_rows ∷ keeps 60 false false other_rows ∷ locations_read other_rows ∷ comes_back 60 false false other_rows ∷ [] ≡
    true ∷ true ∷ false ∷ false ∷ []
unfolding the_reader the_writer the_rules the_tables other_rows locations_read
rows_earn_their_place = refl

pub other_rows_are_10 : write_number (keeping_answer 60 false false (layout other_rows) (head_of other_rows) 0) ≡ 10
unfolding the_reader the_writer the_rules the_tables the_rooms other_rows keeping_answer
other_rows_are_10 = refl
