-- Short slices, each with the number, the line and the offset that are told of it, proved about the definitions by one statement over a list.
use Prim.Native.Nat.{ℕ}
use mathlib.Core.Bool.{Bool, true, false}
use mathlib.Core.Path.{◌≡◌, refl}
use mathlib.Core.List.{List, [], ◌∷◌, ◌++◌, map}
use lib.ListN.{replicate}
use Rattle.spec_format.specs.Bytes.{bytes, concat, number}
use Rattle.spec_format.specs.Utf8.{chars, utf8}
use Rattle.spec_format.specs.Readers.{tag, until, line, line_end, members_up_to, end_up_to, members, end}
use Rattle.spec_format.specs.Location.{run, past, behind, base_number, bases, accession, leaf, plain, begin, members_in, location_from, reading}
use Rattle.spec_format.specs.Locus.{preamble, tokens, date_of, date_token, locus_from, locus_of, locus_line, locus}
use Rattle.spec_format.specs.Header.{field_text, field_bytes, field, reference, source, ignored_line, header_field, latest, every}
use Rattle.spec_format.specs.Features.{features_header, bare, escape, quoted_turn, quoted, value, value_of, qualifier, feature_from, feature}
use Rattle.spec_format.specs.Deep.{so_far, deep_feature, deep_contig}
use Rattle.spec_format.specs.Origin.{origin_tag, letters}
use Rattle.spec_bases.specs.Bases.{set_of}
use Rattle.spec_format.specs.Record.{features, slashes_later, middle, deep_in, table_from, read_record}
use Rattle.spec_format.specs.Strict.{stray, letters_from, record_by, read_by}
use Rattle.spec_format.specs.Rooms.{Rooms, rooms_in, pieces_text, pieces_row, texts_of, feature_text, qualifier_count, location_count, layout, sizes, head_of, fits, answer_of, read_answer}
use Rattle.spec_format.specs.Numbers.{read_number}
use Rattle.spec_format.specs.declared.ReadAnswer.{ReadAnswer}
use Rattle.spec_lines.specs.Lines.{feeds, line_start, spot_of}
use Rattle.spec_lines.specs.Troubles.{read_spot, stopped_up_to, stopped, header_begins, header_ends, second_definition, sections_end, deep_place}
use Rattle.spec_lines.specs.declared.Spot.{Spot}

-- an example: a slice and a place, and the answer's number, line and offset
pub record Example : Type 0 where
  pub slice : List ℕ
  pub place : ℕ
  pub number : ℕ
  pub line : ℕ
  pub offset : ℕ

-- a call that lends no room, so 6 is answered where a record is read
no_room : Rooms
no_room = rooms_in [] [] [] [] [] [] []

numbers : ℕ → Spot → List ℕ
numbers n p = n ∷ p.line ∷ p.offset ∷ []

told_of : List ℕ → ℕ → ReadAnswer → List ℕ
told_of s at a = numbers (read_number a) (read_spot s at a)

-- with the strict switch on or off
pub told : Bool → Example → List ℕ
told strict e = told_of e.slice e.place (read_answer strict e.slice e.place no_room)

pub should : Example → List ℕ
should e = e.number ∷ e.line ∷ e.offset ∷ []

-- a LOCUS line that promises four letters; sixteen words open
four : List ℕ
four = bytes "LOCUS x 4 bp DNA linear SYN 01-MAR-2024\n"

sixteen : List ℕ
sixteen = concat (replicate 16 (bytes "join("))

pub examples : List Example
examples =
    -- 1 and 3 tell no line: the place is the end, or past it
    record { slice = bytes "x\n"; place = 2; number = 1; line = 0; offset = 0 } ∷
    record { slice = bytes "x\n"; place = 3; number = 3; line = 0; offset = 0 } ∷
    -- 2 at the end: after a last LF an empty line, in mid-line that line
    record { slice = bytes "LOCUS x\n"; place = 0; number = 2; line = 2; offset = 8 } ∷
    record { slice = bytes "x\nLOCUS x"; place = 0; number = 2; line = 2; offset = 2 } ∷
    -- 4: a line that is not UTF-8, one with a stray CR, which ends no line, the end
    record { slice = bytes "x\nÿ\nLOCUS x\n//\n"; place = 0; number = 4; line = 2; offset = 2 } ∷
    record { slice = bytes "x\ny\rz\nLOCUS x\n//\n"; place = 0; number = 4; line = 2; offset = 2 } ∷
    record { slice = bytes "x\ny\n"; place = 0; number = 4; line = 3; offset = 4 } ∷
    -- 4: a LOCUS line that lacks a space, in lines that end with CR LF, and from a place in mid-line, which is then the offset
    record { slice = bytes "x\r\n\r\nLOCUSx\r\n"; place = 0; number = 4; line = 3; offset = 5 } ∷
    record { slice = bytes "abcLOCUSx\n"; place = 3; number = 4; line = 1; offset = 3 } ∷
    -- 5: the second DEFINITION that is taken, with a third after it, and with a dropped one before
    record { slice = bytes "LOCUS x\nDEFINITION a\nDEFINITION b\nDEFINITION c\n//\n"; place = 0; number = 5; line = 3; offset = 21 } ∷
    record { slice = bytes "LOCUS x\nDEFINITION\nDEFINITION a\nDEFINITION b\n//\n"; place = 0; number = 5; line = 4; offset = 32 } ∷
    -- 6: the LOCUS line, counted from the place
    record { slice = bytes "a\nb\nx\nLOCUS x\n//\n"; place = 4; number = 6; line = 2; offset = 6 } ∷
    -- 7: where the sections end, without letters and with them
    record { slice = bytes "LOCUS x\na\rb\n//\n"; place = 0; number = 7; line = 2; offset = 8 } ∷
    record { slice = four ++ bytes "ORIGIN\n acgt /\n//\n"; place = 0; number = 7; line = 3; offset = 47 } ∷
    -- 8: the line of the `/`; 9: that of the byte
    record { slice = four ++ bytes "ORIGIN\n ac\n g//\n"; place = 0; number = 8; line = 4; offset = 51 } ∷
    record { slice = four ++ bytes "ORIGIN\n a\rc\r\n g-\n//\n"; place = 0; number = 9; line = 4; offset = 53 } ∷
    -- 14: the first line of a location, in a feature and in CONTIG
    record { slice = bytes "LOCUS x\nFEATURES Location/Qualifiers\n a 1\n b " ++ sixteen ++ bytes "\n   join("; place = 0; number = 14; line = 4; offset = 42 } ∷
    record { slice = bytes "zz\nLOCUS x\nCONTIG " ++ sixteen ++ bytes "join(\n"; place = 3; number = 14; line = 2; offset = 11 } ∷
    []

pub examples_hold : map (told false) examples ≡ map should examples
unfolding examples no_room numbers told_of told should four sixteen feeds line_start spot_of stopped_up_to stopped header_begins header_ends second_definition sections_end deep_place number chars utf8 tag until line line_end members_up_to end_up_to members end run past behind base_number bases accession leaf plain begin members_in location_from reading preamble tokens date_of date_token locus_from locus_of locus_line locus field_text field_bytes field reference source ignored_line header_field latest every features_header bare escape quoted_turn quoted value value_of qualifier feature_from feature so_far deep_feature deep_contig origin_tag letters features slashes_later middle deep_in table_from read_record record_by read_by pieces_text pieces_row texts_of feature_text qualifier_count location_count layout sizes head_of fits answer_of read_answer
examples_hold = refl

-- with the switch on: 16 tells the line of the first letter without a code, and goes ahead of 8, 2 and 7; of it and a byte that is 9 the first in the file decides
pub strict_examples : List Example
strict_examples =
    record { slice = four ++ bytes "ORIGIN\n ac\n gx\n//\n"; place = 0; number = 16; line = 4; offset = 51 } ∷
    record { slice = bytes "z\n" ++ four ++ bytes "ORIGIN\n acgtE/\n"; place = 2; number = 16; line = 3; offset = 49 } ∷
    record { slice = four ++ bytes "ORIGIN\n\nl"; place = 0; number = 16; line = 4; offset = 48 } ∷
    record { slice = four ++ bytes "ORIGIN\n x\n-"; place = 0; number = 16; line = 3; offset = 47 } ∷
    record { slice = four ++ bytes "ORIGIN\n -\nx"; place = 0; number = 9; line = 3; offset = 47 } ∷
    record { slice = four ++ bytes "ORIGIN x\n ac//x\n"; place = 0; number = 8; line = 3; offset = 49 } ∷
    record { slice = four ++ bytes "DEFINITION a\nDEFINITION b\nORIGIN\n x\n//\n"; place = 0; number = 5; line = 3; offset = 53 } ∷
    record { slice = four ++ bytes "ORIGIN\n UuNn\n//\n"; place = 0; number = 6; line = 1; offset = 0 } ∷
    []

pub strict_examples_hold : map (told true) strict_examples ≡ map should strict_examples
unfolding strict_examples no_room numbers told_of told should four feeds line_start spot_of stopped_up_to stopped header_begins header_ends second_definition sections_end deep_place number set_of chars utf8 tag until line line_end members_up_to end_up_to members end run past behind base_number bases accession leaf plain begin members_in location_from reading preamble tokens date_of date_token locus_from locus_of locus_line locus field_text field_bytes field reference source ignored_line header_field latest every features_header bare escape quoted_turn quoted value value_of qualifier feature_from feature so_far deep_feature deep_contig origin_tag letters features slashes_later middle deep_in table_from read_record stray letters_from record_by read_by pieces_text pieces_row texts_of feature_text qualifier_count location_count layout sizes head_of fits answer_of read_answer
strict_examples_hold = refl
