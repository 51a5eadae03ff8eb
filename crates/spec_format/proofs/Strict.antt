-- Document 02, ticket 7, computed by one statement over a list: which number short slices have with the strict switch.
use Prim.Native.Nat.{ℕ}
use mathlib.Core.Bool.{true}
use mathlib.Core.Path.{◌≡◌, refl}
use mathlib.Core.List.{List, [], ◌∷◌, ◌++◌, map}
use Rattle.spec_bases.specs.Bases.{set_of}
use Rattle.spec_format.specs.Bytes.{bytes, number}
use Rattle.spec_format.specs.Utf8.{chars, utf8}
use Rattle.spec_format.specs.Readers.{tag, until, line, line_end, members_up_to, end_up_to, members, end}
use Rattle.spec_format.specs.Locus.{preamble, tokens, date_of, date_token, locus_from, locus_of, locus_line, locus}
use Rattle.spec_format.specs.Header.{field_text, field_bytes, field, reference, source, ignored_line, header_field, latest, every}
use Rattle.spec_format.specs.Features.{features_header}
use Rattle.spec_format.specs.Deep.{deep_contig}
use Rattle.spec_format.specs.Origin.{origin_tag, letters}
use Rattle.spec_format.specs.Record.{Outcome, was_read, not_read, features, slashes_later, middle, deep_in, table_from, read_record}
use Rattle.spec_format.specs.Strict.{stray, letters_from, record_by, read_by}
use Rattle.spec_format.specs.Numbers.{unread_number}

-- the letters that are read, or the number of the refusal
told : Outcome → List ℕ
told (was_read t rest) = t.letters
told (not_read why) = unread_number why ∷ []

-- a record that promises four letters, from ORIGIN's line on
strictly_read : List ℕ → List ℕ
strictly_read s = told (read_by true (bytes "LOCUS x 4 bp DNA linear SYN 01-MAR-2024\nORIGIN\n" ++ s) 0)

-- what is computed, and what it should be
pub record Reading : Type 0 where
  pub got : List ℕ
  pub should : List ℕ

pub readings : List Reading
readings =
    -- U, capitals and small letters, and the codes of several bases are read; the ten others are 16
    record { got = strictly_read (bytes " acUN\n//\n"); should = bytes "acUN" } ∷
    record { got = strictly_read (bytes " RyuV\n//\n"); should = bytes "RyuV" } ∷
    record { got = strictly_read (bytes " acge\n//\n"); should = 16 ∷ [] } ∷
    record { got = strictly_read (bytes " acgX\n//\n"); should = 16 ∷ [] } ∷
    -- before 8, 2 and 7: another length, the input's end, no `//`
    record { got = strictly_read (bytes " ex\n//\n"); should = 16 ∷ [] } ∷
    record { got = strictly_read (bytes " ac\n//\n"); should = 8 ∷ [] } ∷
    record { got = strictly_read (bytes " acgx"); should = 16 ∷ [] } ∷
    record { got = strictly_read (bytes " acgt x"); should = 16 ∷ [] } ∷
    record { got = strictly_read (bytes " acgx/\n//\n"); should = 16 ∷ [] } ∷
    -- of it and a byte that is 9 the first in the file decides
    record { got = strictly_read (bytes " ax-\n//\n"); should = 16 ∷ [] } ∷
    record { got = strictly_read (bytes " a-x\n//\n"); should = 9 ∷ [] } ∷
    -- what stands behind the `/` is no letter
    record { got = strictly_read (bytes " ac\n//x\n"); should = 8 ∷ [] } ∷
    []

pub readings_hold : map (λ e. e.got) readings ≡ map (λ e. e.should) readings
unfolding readings told strictly_read set_of number chars utf8 tag until line line_end members_up_to end_up_to members end preamble tokens date_of date_token locus_from locus_of locus_line locus field_text field_bytes field reference source ignored_line header_field latest every features_header deep_contig origin_tag letters features slashes_later middle deep_in table_from read_record stray letters_from record_by read_by
readings_hold = refl
