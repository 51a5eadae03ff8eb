-- Lines of the public documents, computed: a LOCUS line and its values (read in proofs/SampleRead.antt), and lines that the documents allow or once allowed and document 01 does not take.
use Rattle.std.specs.Prelude.{ℕ, true, ◌≡◌, refl, List, [], ◌∷◌, ◌++◌, map, drop}
use Rattle.spec_format.specs.Bytes.{bytes, all, number}
use Rattle.spec_format.specs.Readers.{got, tag, until, line, members_up_to, end_up_to, members, end}
use Rattle.spec_format.specs.Utf8.{chars, utf8}
use Rattle.spec_format.specs.Header.{field_text, field_bytes, field, reference, source, ignored_line, header_field, dropped}
use Rattle.spec_format.specs.Locus.{tokens, date_of, date_token, locus_from, locus_of, locus_line, locus, unknown}
use Rattle.spec_format.specs.declared.Date.{Date}
use Rattle.spec_public.specs.Public.{LocusValues, locus_tests, locus_columns}

-- a line, and the values that it has in the public columns
pub record Placed : Type 0 where
  pub values : LocusValues
  pub line : List ℕ

-- a line such as the release notes show
unfoldable pub sample : Placed
sample =
    record {
      values =
          record {
            name = bytes "CP032762";
            count = bytes "5868661";
            strand = [];
            molecule = bytes "DNA";
            topology = bytes "circular";
            division = bytes "BCT";
            date = bytes "15-OCT-2018";
          };
      line = bytes "LOCUS       CP032762             5868661 bp    DNA     circular BCT 15-OCT-2018";
    }

unfoldable pub day : Date
day = record { day = 15; month = 10; year = 2018 }

-- in the public columns, but a name with `:`, a length of 11 digits, a length over 4,294,967,295
pub placed : List Placed
placed =
    record {
      values =
          record {
            name = bytes "HLA:HLA00001";
            count = bytes "3503";
            strand = [];
            molecule = bytes "DNA";
            topology = bytes "linear";
            division = bytes "PRI";
            date = bytes "01-JAN-2024";
          };
      line = bytes "LOCUS       HLA:HLA00001            3503 bp    DNA     linear   PRI 01-JAN-2024";
    } ∷
    record {
      values =
          record {
            name = bytes "LONG";
            count = bytes "10000000000";
            strand = bytes "ss-";
            molecule = bytes "RNA";
            topology = bytes "linear";
            division = bytes "VRL";
            date = bytes "01-JAN-2024";
          };
      line = bytes "LOCUS       LONG             10000000000 bp ss-RNA     linear   VRL 01-JAN-2024";
    } ∷
    record {
      values =
          record {
            name = bytes "LARGE";
            count = bytes "4294967296";
            strand = [];
            molecule = bytes "DNA";
            topology = bytes "linear";
            division = bytes "PLN";
            date = bytes "01-JAN-2024";
          };
      line = bytes "LOCUS       LARGE             4294967296 bp    DNA     linear   PLN 01-JAN-2024";
    } ∷
    []

pub placed_columns : all (λ x. locus_columns x.values x.line) placed ≡ true
unfolding placed locus_tests
placed_columns = refl

pub untaken : List (List ℕ)
untaken =
    -- without topology, as lines once were
    bytes "LOCUS       SCU49845     5028 bp    DNA             PLN       21-JUN-1999" ∷
    -- a protein
    bytes "LOCUS       AAA98665                 206 aa            linear   PLN 14-NOV-2006" ∷
    -- without division, without date
    bytes "LOCUS       U49845                  5028 bp    DNA     linear       21-JUN-1999" ∷
    bytes "LOCUS       U49845                  5028 bp    DNA     linear   PLN" ∷
    map (λ x. x.line) placed

-- NONE OF THESE KEEPS ITS VALUES
pub untaken_unknown : map (λ l. locus (l ++ 10 ∷ [])) untaken ≡ map (λ l. got unknown []) untaken
unfolding untaken placed tag until line tokens date_of date_token locus_from locus_of locus_line locus number
untaken_unknown = refl

-- ---- the header

-- words that document 01 has not, and a reference without TITLE
pub unknown_words : List (List ℕ)
unknown_words =
    bytes "SEGMENT     1 of 6" ∷
    bytes "PRIMARY     TPA_SPAN            PRIMARY_IDENTIFIER PRIMARY_SPAN        COMP" ∷
    bytes "DBSOURCE    accession U49845.1" ∷
    bytes "NID         g1293613" ∷
    bytes "  MEDLINE   95176709" ∷
    bytes "REFERENCE   1  (bases 1 to 5028)" ∷
    []

-- what stands after each of them here
pub afterwards : List ℕ
afterwards = bytes "\n  JOURNAL   Unpublished\n//\n"

-- EACH OF THESE LINES IS DROPPED, alone
pub words_dropped : map (λ l. header_field (l ++ afterwards)) unknown_words ≡ map (λ l. got dropped (drop 1 afterwards)) unknown_words
unfolding unknown_words afterwards header_field ignored_line source reference field field_bytes field_text tag until line members_up_to end_up_to members end chars utf8
words_dropped = refl
