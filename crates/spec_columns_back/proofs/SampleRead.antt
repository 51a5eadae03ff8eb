-- A LOCUS line of the public documents is read as its values, computed.
use Rattle.std.specs.Prelude.{◌≡◌, refl, [], ◌∷◌, ◌++◌}
use Rattle.spec_format.specs.Bytes.{number}
use Rattle.spec_format.specs.Readers.{got}
use Rattle.spec_format.specs.Dates.{month_name, date_text}
use Rattle.spec_format.specs.Locus.{locus}
use Rattle.spec_public.specs.Public.{locus_tests}
use Rattle.spec_columns_back.specs.LocusRead.{values_of}
use Rattle.spec_columns_back.proofs.LocusRead.{locus_read}
use Rattle.spec_columns_back.specs.Untaken.{sample, day}

-- the premises of `locus_read` can be met
pub sample_read : locus (sample.line ++ 10 ∷ []) ≡ got (values_of sample.values day) []
unfolding sample day locus_tests number month_name date_text
sample_read =
    locus_read sample.values day sample.line [] refl
    (record {
      name_some = refl;
      name_seen = refl;
      name_colonless = refl;
      count_some = refl;
      count_digits = refl;
      count_ten = refl;
      count_fits = refl;
      strand = refl;
      molecule = refl;
      topology = refl;
      division_some = refl;
      division_seen = refl;
      date = refl;
      date_range = refl;
    })
