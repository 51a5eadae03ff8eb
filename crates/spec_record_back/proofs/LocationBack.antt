-- A feature's location and its qualifiers, written and read.
use Prim.Native.Nat.{ℕ, ◌+◌, ◌<◌}
use Rattle.std.proofs.Common.{arith}
use Rattle.std.specs.Prelude.{Bool, false, ◌&&◌, ◌≡◌}
use Rattle.std.proofs.Math.Bool.{true}
use mathlib.Core.List.{List, ◌++◌}
use Rattle.std.proofs.Math.ListN.{length}
use Rattle.spec_format.specs.Bytes.{some, all, each, visible}
use Rattle.spec_format.specs.Readers.{got, more, fit_turn, many0}
use Rattle.spec_format.specs.Features.{bare, qualifier, feature_from}
use Rattle.spec_format.specs.Location.{locates, rows_in}
use Rattle.spec_format.specs.Table.{Qualifier}
use Rattle.spec_format.specs.Wrap.{comma_lines}
use Rattle.spec_format.specs.Write.{qualifier_lines}
use Rattle.spec_format.specs.WellFormed.{qualifier_fine}
use Rattle.spec_format.specs.Keeping.{no_slash, qualifier_kept}
use Rattle.spec_loops.specs.Loops.{fit_shrinks}
use Rattle.spec_loops.proofs.Shrinks.{qualifier_small}
use Rattle.spec_location.specs.Bytes.{locates_some, locates_visible}
use Rattle.spec_texts_back.specs.Tests.{and_left, and_right}
use Rattle.spec_texts_back.specs.Joins.{each_follow, each_back}
use Rattle.spec_texts_back.specs.BareBack.{ends}
use Rattle.spec_texts_back.proofs.BareBack.{commas_back}
use Rattle.spec_record_back.specs.QualifierBack.{qualifier_follow, outside, outside_ends, outside_qualifier}
use Rattle.spec_record_back.proofs.QualifierBack.{qualifier_back}

-- ---- the qualifiers of a feature

module _ (W : ℕ) where
  abbrev pub qualifier_good : Qualifier → Bool
  qualifier_good q = qualifier_fine W q && qualifier_kept W q

  one_qualifier :
      (q : Qualifier) (s : List ℕ) → qualifier_good q ≡ true → ends 21 s ≡ true →
      fit_turn (qualifier 21) (qualifier_lines W q ++ s) ≡ got (more q) s
  one_qualifier q s g e =
      rw (qualifier_back W q s (and_left (qualifier_fine W q) (qualifier_kept W q) g) (and_right (qualifier_fine W q) (qualifier_kept W q) g) e)

  module _ (rest : List ℕ) (fine : outside 21 rest ≡ true) (qs : List Qualifier) (g : all qualifier_good qs ≡ true) where
    qualifiers_follow : ends 21 (each (qualifier_lines W) qs ++ rest) ≡ true
    qualifiers_follow =
        each_follow (fit_turn (qualifier 21)) (fit_shrinks (qualifier 21) (qualifier_small 21)) (qualifier_lines W) qualifier_good (ends 21) one_qualifier
        (λ q s _. qualifier_follow W q s) rest (outside_ends 21 rest fine) qs g

    qualifiers_back : many0 (qualifier 21) (each (qualifier_lines W) qs ++ rest) ≡ got qs rest
    qualifiers_back =
        each_back (fit_turn (qualifier 21)) (fit_shrinks (qualifier 21) (qualifier_small 21)) (qualifier_lines W) qualifier_good (ends 21) one_qualifier
        (λ q s _. qualifier_follow W q s) rest (outside_ends 21 rest fine) (rw (outside_qualifier 21 rest fine)) qs g

-- ---- a feature

pub location_back :
    (W : ℕ) (kind location rest : List ℕ) (qs : List Qualifier) → 21 < W → locates false location ≡ true → no_slash location ≡ true →
    all (qualifier_good W) qs ≡ true → outside 21 rest ≡ true →
    feature_from 21 kind (comma_lines (length location) W 21 21 location ++ (each (qualifier_lines W) qs ++ rest)) ≡
    got (record { kind = kind; location = location; qualifiers = qs; rows = rows_in false location }) rest
unfolding feature_from
location_back W kind location rest qs w f n g fine =
    let s : some location ≡ true = locates_some false location f in
    let a : all visible location ≡ true = locates_visible false location f in
    let x : List ℕ = each (qualifier_lines W) qs ++ rest in
    let b : bare 21 (comma_lines (length location) W 21 21 location ++ x) ≡ got location x =
    commas_back W 21 w x (qualifiers_follow W rest fine qs g) (length location) 21 location w s a n (omega arith) in
    rw (b, f, qualifiers_back W rest fine qs g)
