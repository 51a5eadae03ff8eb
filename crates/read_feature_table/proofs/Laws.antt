-- One feature by its kind, its location and its qualifiers, and the loop over features: each turn, and each way out. Assumes nothing.
use Prim.Native.Nat.{ℕ, ◌+◌, ◌-◌, ◌≤◌, ◌<◌}
use mathlib.Core.Path.{◌≡◌, refl, ap, subst, ◌∙◌}
use mathlib.Core.Bool.{Bool, false}
use mathlib.Core.List.{List, [], ◌∷◌}
use native.Mathlib.Omega.{arith}
use lib.ListN.{length, drop, length-append}
use Rattle.spec_format.specs.Bytes.{each}
use Rattle.spec_format.specs.Table.{Feature}
use Rattle.spec_format.specs.Readers.{got, no, cut, passing, fit_turn, try_turn, members, end, many0, while_fits}
use Rattle.spec_format.specs.Features.{qualifier, bare, feature_from, feature}
use Rattle.spec_format.specs.Location.{locates, rows_in}
use Rattle.spec_format.specs.Rooms.{feature_text, qualifier_count, location_count}
use Rattle.spec_loops.specs.Loops.{try_members_no, try_members_cut, try_end_no, try_end_cut}
use Rattle.spec_loops.proofs.Loops.{try_members_more, try_end_more}
use Rattle.spec_loops.proofs.Shrinks.{feature_small}
use Rattle.scan_bytes.specs.Places.{part}
use Rattle.scan_bytes.specs.Parts.{length_part}
use Rattle.read_feature_location.specs.Places.{LocationFound}
use Rattle.read_feature_location.specs.declared.Located.{Located}
use Rattle.read_feature_location.specs.declared.Located.TheVariants as located
use Rattle.read_feature_bare.specs.Bared.{bare_text}
use Rattle.read_feature_names.specs.Headed.{feature_head, KindRead}
use Rattle.read_feature_names.specs.declared.Kind.{Kind}
use Rattle.read_feature_names.specs.declared.Kind.TheVariants as kind
use Rattle.read_feature_qualifiers.specs.Reads.{QualifiersKnown, QualifiersAs, QualifiersRead}
use Rattle.read_feature_qualifiers.specs.declared.QualifiersAt.{QualifiersAt}
use Rattle.read_feature_qualifiers.specs.declared.QualifiersAt.TheVariants as all
use Rattle.read_feature_table.specs.declared.FeatureAt.{FeatureAt}
use Rattle.read_feature_table.specs.declared.FeatureAt.TheVariants as one
use Rattle.read_feature_table.specs.Reads.{Placed, feature_rest, FeatureKnown, FeatureAs, FeatureRead, features_in, FeaturesRead}
use Rattle.read_feature_table.specs.Texts.{whole_length}
use Rattle.read_feature_table.specs.Steps.{kind_is, kind_bad, kind_short, kinded, placed, location_is, location_bad, location_short}

-- ---- the qualifiers

module _ (s : List ℕ) (at first end location long rows rest : ℕ) (r : QualifiersAt) (p : Placed s at first end location long rows rest)
    (h : QualifiersRead s rest (members (fit_turn (qualifier (location - at))) (drop rest s)) (many0 (qualifier (location - at)) (drop rest s)) r) where
  read_is : (x : QualifiersAt) → r ≡ x → QualifiersAs s rest (members (fit_turn (qualifier (location - at))) (drop rest s)) (many0 (qualifier (location - at)) (drop rest s)) x
  read_is x e =
      subst (λ (x : QualifiersAt). QualifiersAs s rest (members (fit_turn (qualifier (location - at))) (drop rest s)) (many0 (qualifier (location - at)) (drop rest s)) x) e h.is

  pub rest_got : (count bytes next : ℕ) → r ≡ all.Got count bytes next
      → FeatureRead s at (feature_rest s at first end location rest) (one.Got count rows (end - first + long + bytes) next)
  rest_got count bytes next e =
      let k : QualifiersKnown s rest (members (fit_turn (qualifier (location - at))) (drop rest s)) (many0 (qualifier (location - at)) (drop rest s)) count bytes next =
      read_is (all.Got count bytes next) e in
      let the : Feature =
      record {
        kind = part first end s;
        location = bare_text (location - at) (drop location s);
        qualifiers = members (fit_turn (qualifier (location - at))) (drop rest s);
        rows = rows_in false (bare_text (location - at) (drop location s));
      } in
      let a = p.before in let b = p.kind in let c = p.gap in let d = p.sized in let f = p.small in let g = p.ahead in let w = p.within in let y = p.few in
      let m = k.counted in let n = k.sized in let u = k.small in let v = k.few in
      let t = whole_length the in
      let z : length (part first end s) ≡ end - first = length_part s first end (omega arith) (omega arith) in
      record {
        is =
            record {
              the = the;
              is = rw k.is;
              counted = m;
              rowed = p.rowed;
              sized = omega arith;
              within = k.within;
              small = omega arith;
              few = omega arith;
              short = omega arith;
            };
      }

  pub rest_fits : (count bytes next : ℕ) → r ≡ all.Got count bytes next → end - first + long + bytes ≤ length s
  rest_fits count bytes next e =
      let k : QualifiersKnown s rest (members (fit_turn (qualifier (location - at))) (drop rest s)) (many0 (qualifier (location - at)) (drop rest s)) count bytes next =
      read_is (all.Got count bytes next) e in
      let a = p.before in let b = p.kind in let c = p.gap in let f = p.small in
      let u = k.small in let w = k.within in
      omega arith

  pub rest_cut : r ≡ all.Cut → FeatureRead s at (feature_rest s at first end location rest) one.Cut
  rest_cut e = let k : many0 (qualifier (location - at)) (drop rest s) ≡ cut = read_is all.Cut e in record { is = rw k }

pub ruleset resting = (rest_got, rest_fits, rest_cut)

-- ---- the location

module _ (s : List ℕ) (at first end location : ℕ) (r : Located)
    (h : LocationFound s location (bare_text (location - at) (drop location s)) (passing (locates false) (bare (location - at) (drop location s))) r) where
  pub location_got : (long rest rows : ℕ) (line : Bool) (x : FeatureAt) → r ≡ located.Got long rest rows line → FeatureRead s at (feature_rest s at first end location rest) x
      → FeatureRead s at (feature_from (location - at) (part first end s) (drop location s)) x
  location_got long rest rows line x e g = rw (location_is s at first end location r h long rest rows line e) g

  pub location_no : r ≡ located.No → FeatureRead s at (feature_from (location - at) (part first end s) (drop location s)) one.No
  location_no e = record { is = location_bad s at first end location r h e }

  pub location_cut : r ≡ located.Cut → FeatureRead s at (feature_from (location - at) (part first end s) (drop location s)) one.Cut
  location_cut e = record { is = location_short s at first end location r h e }

pub ruleset locating = (placed, location_got, location_no, location_cut)

-- ---- the kind

module _ (s : List ℕ) (at : ℕ) (r : Kind) (h : KindRead s at (feature_head (drop at s)) r) where
  pub kind_got : (first end next : ℕ) (x : FeatureAt) → r ≡ kind.Got first end next
      → FeatureRead s at (feature_from (next - at) (part first end s) (drop next s)) x → FeatureRead s at (feature (drop at s)) x
  kind_got first end next x e g = rw (kind_is s at r h first end next e) g

  pub kind_no : r ≡ kind.No → FeatureRead s at (feature (drop at s)) one.No
  kind_no e = record { is = kind_bad s at r h e }

  pub kind_cut : r ≡ kind.Cut → FeatureRead s at (feature (drop at s)) one.Cut
  kind_cut e = record { is = kind_short s at r h e }

pub ruleset kinds = (kinded, kind_got, kind_no, kind_cut)

-- ---- the loop

-- the features from `at` up to i were counted, with their qualifiers, their location rows and the lengths of their texts
pub record Counted (s : List ℕ) (at i count qualifiers rows bytes : ℕ) : Type 0 where
  pub within : i ≤ length s
  pub small : bytes + at ≤ i
  pub few : count + qualifiers + at ≤ i
  pub short : rows + at ≤ i
  pub counts : length (features_in (drop at s)) ≡ count + length (features_in (drop i s))
  pub under : qualifier_count (features_in (drop at s)) ≡ qualifiers + qualifier_count (features_in (drop i s))
  pub rowed : location_count (features_in (drop at s)) ≡ rows + location_count (features_in (drop i s))
  pub sizes : length (each feature_text (features_in (drop at s))) ≡ bytes + length (each feature_text (features_in (drop i s)))
  pub ends : end (try_turn feature) (drop at s) ≡ end (try_turn feature) (drop i s)

count_more : (f : Feature) (fs : List Feature) → qualifier_count (f ∷ fs) ≡ length f.qualifiers + qualifier_count fs
unfolding qualifier_count
count_more f fs = refl

count_none : qualifier_count [] ≡ 0
unfolding qualifier_count
count_none = refl

rows_more : (f : Feature) (fs : List Feature) → location_count (f ∷ fs) ≡ length f.rows + location_count fs
unfolding location_count
rows_more f fs = refl

rows_none : location_count [] ≡ 0
unfolding location_count
rows_none = refl

tries_is : (x z : List ℕ) → end (try_turn feature) x ≡ got tt z → while_fits feature x ≡ got (features_in x) z
tries_is x z e = rw e

module _ (s : List ℕ) (at : ℕ) where
  pub counted_none : at ≤ length s → Counted s at at 0 0 0 0
  counted_none h =
      record {
        within = h;
        small = omega arith;
        few = omega arith;
        short = omega arith;
        counts = omega arith;
        under = omega arith;
        rowed = omega arith;
        sizes = omega arith;
        ends = refl;
      }

  module _ (i count qualifiers rows bytes : ℕ) (r : FeatureAt) (g : Counted s at i count qualifiers rows bytes) (h : FeatureRead s i (feature (drop i s)) r) where
    one_is : (x : FeatureAt) → r ≡ x → FeatureAs s i (feature (drop i s)) x
    one_is x e = subst (λ (x : FeatureAt). FeatureAs s i (feature (drop i s)) x) e h.is

    module _ (qs ls more next : ℕ) (e : r ≡ one.Got qs ls more next) where
      known : FeatureKnown s i (feature (drop i s)) qs ls more next
      known = one_is (one.Got qs ls more next) e

      pub counted_more : Counted s at next (count + 1) (qualifiers + qs) (rows + ls) (bytes + more)
      counted_more =
          let k = known in
          let the : Feature = k.the in
          let fs : List Feature = features_in (drop next s) in
          let a = k.small in let b = k.few in let c = k.counted in let d = k.sized in
          let u = g.small in let v = g.few in let x = g.counts in let y = g.under in let z = g.sizes in
          let o = k.short in let p = k.rowed in let q = g.short in let w = g.rowed in
          let m : features_in (drop i s) ≡ the ∷ fs = try_members_more feature feature_small (drop i s) the (drop next s) k.is in
          let l : length (features_in (drop i s)) ≡ length (the ∷ fs) = ap length m in
          let n : qualifier_count (features_in (drop i s)) ≡ qualifier_count (the ∷ fs) = ap qualifier_count m in
          let j : location_count (features_in (drop i s)) ≡ location_count (the ∷ fs) = ap location_count m in
          let t : length (each feature_text (features_in (drop i s))) ≡ length (each feature_text (the ∷ fs)) = ap (λ (l : List Feature). length (each feature_text l)) m in
          record {
            within = k.within;
            small = omega arith;
            few = omega arith;
            short = omega arith;
            counts = omega arith;
            under = omega (arith, count_more the fs);
            rowed = omega (arith, rows_more the fs);
            sizes = omega (arith, length-append (feature_text the) (each feature_text fs));
            ends = g.ends ∙ try_end_more feature feature_small (drop i s) the (drop next s) k.is;
          }

      pub counted_less : length s - next < length s - i
      counted_less = let k = known in let a = k.small in let b = k.within in omega arith

      pub count_fits : count + 1 ≤ length s
      count_fits = let k = known in let a = k.small in let b = k.within in let d = g.few in omega arith

      pub qualifiers_fit : qualifiers + qs ≤ length s
      qualifiers_fit = let k = known in let a = k.few in let b = k.within in let d = g.few in omega arith

      pub rows_fit : rows + ls ≤ length s
      rows_fit = let k = known in let a = k.short in let b = k.within in let d = g.short in omega arith

      pub bytes_fit : bytes + more ≤ length s
      bytes_fit = let k = known in let a = k.small in let b = k.within in let d = g.small in omega arith

    counted_end : features_in (drop i s) ≡ [] → end (try_turn feature) (drop i s) ≡ got tt (drop i s)
        → FeaturesRead s at (features_in (drop at s)) (record { count = count; qualifiers = qualifiers; rows = rows; bytes = bytes; next = i })
    counted_end m k =
        let l : length (features_in (drop i s)) ≡ 0 = ap length m in
        let n : qualifier_count (features_in (drop i s)) ≡ qualifier_count [] = ap qualifier_count m in
        let j : location_count (features_in (drop i s)) ≡ location_count [] = ap location_count m in
        let t : length (each feature_text (features_in (drop i s))) ≡ 0 = ap (λ (l : List Feature). length (each feature_text l)) m in
        let u = g.small in let x = g.counts in let y = g.under in let z = g.sizes in let w = g.rowed in
        record {
          ended = tries_is (drop at s) (drop i s) (g.ends ∙ k);
          count = omega arith;
          qualifiers = omega (arith, count_none);
          rows = omega (arith, rows_none);
          bytes = omega arith;
          from = omega arith;
          within = g.within;
          small = g.small;
          few = g.few;
          short = g.short;
        }

    pub counted_no : r ≡ one.No → FeaturesRead s at (features_in (drop at s)) (record { count = count; qualifiers = qualifiers; rows = rows; bytes = bytes; next = i })
    counted_no e =
        let k : feature (drop i s) ≡ no = one_is one.No e in
        counted_end (try_members_no feature (drop i s) k) (try_end_no feature (drop i s) k)

    pub counted_cut : r ≡ one.Cut → FeaturesRead s at (features_in (drop at s)) (record { count = count; qualifiers = qualifiers; rows = rows; bytes = bytes; next = i })
    counted_cut e =
        let k : feature (drop i s) ≡ cut = one_is one.Cut e in
        counted_end (try_members_cut feature (drop i s) k) (try_end_cut feature (drop i s) k)

pub ruleset counting = (counted_none, counted_more, counted_less, count_fits, qualifiers_fit, rows_fit, bytes_fit, counted_no, counted_cut)
