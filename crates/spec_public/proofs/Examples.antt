-- Usual lines of the flat file, tested against the columns: one statement over a list.
use mathlib.Core.Bool.{Bool, true}
use mathlib.Core.Path.{◌≡◌, refl}
use mathlib.Core.List.{List, [], ◌∷◌}
use Rattle.spec_format.specs.Bytes.{bytes, all}
use Rattle.spec_public.specs.Public.{LocusValues, locus_tests, locus_columns, entry_columns, features_columns, feature_columns, qualifier_columns, blocks, origin_columns, ends_in_comma, broken_at_commas}

pub plasmid : LocusValues
plasmid =
    record {
      name = bytes "P318";
      count = bytes "12";
      strand = bytes "ss-";
      molecule = bytes "DNA";
      topology = bytes "circular";
      division = bytes "SYN";
      date = bytes "01-MAR-2024";
    }

pub tests : List Bool
tests =
    locus_columns plasmid (bytes "LOCUS       P318                      12 bp ss-DNA     circular SYN 01-MAR-2024") ∷
    entry_columns 1 (bytes "DEFINITION") (bytes "Test plasmid.") (bytes "DEFINITION  Test plasmid.") ∷
    entry_columns 3 (bytes "ORGANISM") (bytes "Escherichia coli") (bytes "  ORGANISM  Escherichia coli") ∷
    entry_columns 4 (bytes "PUBMED") (bytes "7871890") (bytes "   PUBMED   7871890") ∷
    features_columns (bytes "FEATURES             Location/Qualifiers") ∷
    feature_columns (bytes "misc_feature") (bytes "1..12") (bytes "     misc_feature    1..12") ∷
    qualifier_columns (bytes "/pseudo") (bytes "                     /pseudo") ∷
    origin_columns (bytes "1") (bytes "acgtacgtacgt") (bytes "        1 acgtacgtac gt") ∷
    broken_at_commas 9 9 (bytes "join(1,3,") (bytes "5)" ∷ []) ∷
    []

pub usual_lines : all (λ b. b) tests ≡ true
unfolding tests plasmid locus_tests blocks ends_in_comma broken_at_commas
usual_lines = refl
