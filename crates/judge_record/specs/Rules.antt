-- Numbers 11 and 13 as the functions test them, and that they are those of the format.
use Rattle.std.specs.Prelude.{ℕ, ◌≡◌, refl, Bool, true, false, ◌&&◌}
use Rattle.spec_format.specs.Bytes.{all, some, printing}
use Rattle.spec_format.specs.Table.{Locus, Table}
use Rattle.spec_format.specs.Utf8.{utf8}
use Rattle.spec_format.specs.Write.{printed_name}
use Rattle.spec_format.specs.WellFormed.{if_is, date_fine, header_texts, feature_fine, contig_fine, letters_fine, locus_fine, well_formed}
use Rattle.spec_format.specs.Keeping.{keeps}

abbrev pub locus_prints : Locus → Bool
locus_prints l = all printing l.division && (if_is (all printing) l.molecule && date_fine l.date)

-- number 11 but for the printed name, whose test is `named`
unfoldable pub well_formed_if : Bool → ℕ → Table → Bool
well_formed_if named W t =
    (named && locus_prints t.locus) && (header_texts utf8 t && (all (feature_fine W) t.features && (if_is contig_fine t.contig &&
    letters_fine t.locus.length t.letters)))

-- number 13, under another name than that of the function `keeps`
abbrev pub keeps_rules : ℕ → Bool → Bool → Table → Bool
keeps_rules W truncate escape t = keeps W truncate escape t

pub well_formed_is : (named truncate escape : Bool) (W : ℕ) (t : Table) → named ≡ (some (printed_name truncate escape t) && all printing (printed_name truncate escape t))
    → well_formed_if named W t ≡ well_formed W truncate escape t
unfolding well_formed_if well_formed locus_fine
well_formed_is named truncate escape W t e =
    rw e (go (some (printed_name truncate escape t)) (all printing (printed_name truncate escape t)) (locus_prints t.locus) _)
  where
    go : (a b c d : Bool) → (((a && b) && c) && d) ≡ ((a && (b && c)) && d)
    go true b c d = refl
    go false b c d = refl
