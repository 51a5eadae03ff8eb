-- The eleven marked examples of document 01, proved about the definitions by one statement over a list.
use Rattle.std.specs.Prelude.{Some}
use Prim.Native.Nat.{ℕ}
use mathlib.Core.Bool.{Bool, true, false}
use mathlib.Core.Path.{◌≡◌, refl}
use mathlib.Core.List.{List, [], ◌∷◌, ◌++◌, map}
use lib.ListN.{take, drop, replicate}
use Rattle.spec_format.specs.Bytes.{absent, is, bytes, spaces, number, digits}
use Rattle.spec_format.specs.Utf8.{utf8, chars}
use Rattle.spec_format.specs.Readers.{Ans, got, no, cut, tag, until, line, line_end, members, members_up_to, end, end_up_to}
use Rattle.spec_format.specs.Dates.{month_name, date_text}
use Rattle.spec_format.specs.Table.{Qualifier, Table}
use Rattle.spec_format.specs.Location.{run, past, behind, base_number, bases, accession, leaf, plain, begin, members_in, location_from, reading, rows_in}
use Rattle.spec_format.specs.Locus.{tokens}
use Rattle.spec_format.specs.Features.{bare, escape, quoted_turn, quoted, value, value_of, qualifier}
use Rattle.spec_format.specs.Wrap.{fill, closing, lines_after, wrapped, wrap_text, last_comma, break_at, comma_lines, wrap_location}
use Rattle.spec_format.specs.Write.{length_text, white, blanked, words, printed_name, locus_text, field_lines, header_lines, comma_key, bare_key, value_lines, qualifier_lines, feature_lines, features_lines, letter_lines, origin_lines, written}
use Rattle.spec_format.specs.WellFormed.{header_texts, locus_fine, qualifier_fine, feature_fine, letters_fine, well_formed}
use Rattle.spec_format.specs.Keeping.{locus_kept, lines_kept, value_kept, qualifier_kept, feature_kept, keeps}
use Rattle.spec_format.specs.Rooms.{layout, head_of, pieces_text, pieces_row, texts_of, rows_of, feature_text, feature_rows, qualifier_rows, rows_from, qualifier_in, feature_in, reference_in, comment_in, table_of, rows_fine, reference_row_fine, qualifier_row_fine, qualifiers_fine, features_fine, lengths_fine, head_fine, counts_fine, rooms_fine}
use Rattle.spec_format.specs.Rooms.{location_numbers, location_count, location_row_in, location_fine, feature_row_fine}
use Rattle.spec_format.specs.Numbers.{write_number}
use Rattle.spec_format.specs.Answers.{plain_answer, keeping_answer}

-- an example: what is computed, and what it should be
pub record Example : Type 0 where
  pub got : List ℕ
  pub should : List ℕ

-- a value that was read: itself, `no value` where there is none, `nothing` where no qualifier was read to the end of what stands there
value_read : Ans Qualifier → List ℕ
value_read (got q []) = bytes "nothing"
value_read (got q (b ∷ s)) = elim q.value [ absent ↦ bytes "no value" | is v ↦ v ]
value_read no = bytes "nothing"
value_read cut = bytes "nothing"

-- a qualifier at column 22, with `//` after it
read : List ℕ → List ℕ
read text = value_read (qualifier 21 (spaces 21 ++ text ++ bytes "\n//\n"))

-- a record with one feature that has one note, and a name and a length
record_of : List ℕ → ℕ → List ℕ → Table
record_of name n note =
    record {
      locus = record { name = is name; length = is n; molecule = absent; circular = false; division = bytes "SYN"; date = Some (record { day = 1; month = 3; year = 2024 }) };
      definition = absent;
      accession = absent;
      version = absent;
      dblink = absent;
      keywords = absent;
      source = absent;
      references = [];
      comments = [];
      features =
          record { kind = bytes "gene"; location = bytes "1"; qualifiers = record { key = bytes "note"; value = is note } ∷ []; rows = rows_in false (bytes "1") } ∷ [];
      contig = absent;
      letters = [];
    }

-- the columns of name and length, 13 to 40, and what follows to column 43
name_columns : Bool → List ℕ → List ℕ
name_columns truncate name = take 31 (drop 12 (locus_text truncate false (record_of name 123 [])))

note_lines : ℕ → List ℕ
note_lines n = qualifier_lines 80 (record { key = bytes "note"; value = is (replicate n 97) })

-- document 01's number of the keeping writer at W 80, with room enough
keeping_number : ℕ → ℕ
keeping_number n =
    let t : Table = record_of (bytes "P318") 12 (replicate n 97) in
    write_number (keeping_answer 80 false false (layout t) (head_of t) 1000)

pub examples : List Example
examples =
    record { got = read (bytes "/note=\"a\"\"b\""); should = bytes "a\"b" } ∷
    record { got = read (bytes "/note=\"a\n" ++ spaces 21 ++ bytes "b\""); should = bytes "a\nb" } ∷
    record { got = read (bytes "/translation=\"a\n" ++ spaces 21 ++ bytes "b\""); should = bytes "ab" } ∷
    record { got = read (bytes "/note=\"abc\"x"); should = bytes "\"abc\"x" } ∷
    record { got = read (bytes "/pseudo"); should = bytes "no value" } ∷
    record { got = read (bytes "/note=\"\""); should = [] } ∷
    record { got = name_columns false (replicate 24 97); should = replicate 24 97 ++ bytes " 123 bp" } ∷
    record { got = name_columns true (replicate 25 97); should = replicate 24 97 ++ bytes " 123 bp" } ∷
    record { got = drop 66 (letter_lines 0 (replicate 61 97)); should = replicate 10 97 ++ bytes "\n       61 a\n" } ∷
    record { got = note_lines 51; should = spaces 21 ++ bytes "/note=\"" ++ replicate 51 97 ++ bytes "\"\n" } ∷
    record { got = keeping_number 51 ∷ keeping_number 52 ∷ note_lines 52; should = 0 ∷ 13 ∷ spaces 21 ++ bytes "/note=\"" ++ replicate 52 97 ++ bytes "\n" ++ spaces 21 ++ bytes "\"\n" } ∷
    []

pub examples_hold : map (λ e. e.got) examples ≡ map (λ e. e.should) examples
unfolding examples value_read read record_of name_columns note_lines keeping_number utf8 chars tag until line line_end members members_up_to end end_up_to month_name date_text tokens bare escape quoted_turn quoted value value_of qualifier fill closing lines_after wrapped wrap_text last_comma break_at comma_lines wrap_location number digits length_text white blanked words printed_name locus_text field_lines header_lines comma_key bare_key value_lines qualifier_lines feature_lines features_lines letter_lines origin_lines written header_texts locus_fine qualifier_fine feature_fine letters_fine well_formed locus_kept lines_kept value_kept qualifier_kept feature_kept keeps layout head_of pieces_text pieces_row texts_of rows_of feature_text feature_rows qualifier_rows rows_from qualifier_in feature_in reference_in comment_in table_of rows_fine reference_row_fine qualifier_row_fine qualifiers_fine features_fine lengths_fine head_fine counts_fine rooms_fine plain_answer keeping_answer run past behind base_number bases accession leaf plain begin members_in location_from reading location_numbers location_count location_row_in location_fine feature_row_fine
examples_hold = refl
