-- A feature by what was read of it first: its kind, then its location.
use Rattle.std.specs.Prelude.{ℕ, ◌-◌, ◌≤◌, ◌<◌, ◌≡◌, Bool, false, List, length, drop}
use Rattle.std.proofs.Common.{subst}
use Rattle.spec_format.specs.Readers.{no, cut, passing}
use Rattle.spec_format.specs.Features.{bare, feature_from, feature}
use Rattle.spec_format.specs.Location.{locates}
use Rattle.scan_bytes.specs.Places.{part}
use Rattle.read_feature_location.specs.Places.{LocationSpan, LocationFound, location_places, found_is}
use Rattle.read_feature_location.specs.declared.Located.{Located}
use Rattle.read_feature_location.specs.declared.Located.TheVariants as located
use Rattle.read_feature_bare.specs.Bared.{bare_text}
use Rattle.read_feature_names.specs.Headed.{PastKind, feature_head, KindRead, feature_is}
use Rattle.read_feature_names.specs.declared.Kind.{Kind}
use Rattle.read_feature_names.specs.declared.Kind.TheVariants as kind
use Rattle.read_feature_table.specs.Reads.{Placed, feature_rest}

-- ---- the kind

module _ (s : List ℕ) (at : ℕ) (r : Kind) (h : KindRead s at (feature_head (drop at s)) r) where
  kind_places : (first end next : ℕ) → r ≡ kind.Got first end next → (at < first) × (first < end) × (end < next) × (next ≤ length s)
  kind_places first end next e = subst (λ (x : Kind). PastKind s at x) e h.place

  pub kind_before : (first end next : ℕ) → r ≡ kind.Got first end next → at < first
  kind_before first end next e = (kind_places first end next e).0

  pub kind_some : (first end next : ℕ) → r ≡ kind.Got first end next → first < end
  kind_some first end next e = (kind_places first end next e).1

  pub kind_gap_lem : (first end next : ℕ) → r ≡ kind.Got first end next → end < next
  kind_gap_lem first end next e = (kind_places first end next e).2

  pub kind_within : (first end next : ℕ) → r ≡ kind.Got first end next → next ≤ length s
  kind_within first end next e = (kind_places first end next e).3

  pub kind_is : (first end next : ℕ) → r ≡ kind.Got first end next → feature (drop at s) ≡ feature_from (next - at) (part first end s) (drop next s)
  kind_is first end next e = rw (feature_is (drop at s), ← h.is, e)

  pub kind_bad : r ≡ kind.No → feature (drop at s) ≡ no
  kind_bad e = rw (feature_is (drop at s), ← h.is, e)

  pub kind_short : r ≡ kind.Cut → feature (drop at s) ≡ cut
  kind_short e = rw (feature_is (drop at s), ← h.is, e)

-- the places of a kind
pub ruleset kinded = (kind_before, kind_some, kind_gap_lem, kind_within)

-- ---- the location

module _ (s : List ℕ) (at first end location : ℕ) (r : Located)
    (h : LocationFound s location (bare_text (location - at) (drop location s)) (passing (locates false) (bare (location - at) (drop location s))) r) where
  pub placed : (long rest rows : ℕ) (line : Bool) → at < first → first < end → end < location → r ≡ located.Got long rest rows line → Placed s at first end location long rows rest
  placed long rest rows line a b c e =
      let k : LocationSpan s location (bare_text (location - at) (drop location s)) long rest rows line = location_places h e in
      record {
        before = a;
        kind = b;
        gap = c;
        sized = k.span.long;
        rowed = k.counted;
        few = k.few;
        small = k.span.short;
        ahead = k.span.from;
        within = k.span.within;
      }

  pub location_is : (long rest rows : ℕ) (line : Bool) → r ≡ located.Got long rest rows line
      → feature_from (location - at) (part first end s) (drop location s) ≡ feature_rest s at first end location rest
  unfolding feature_from
  location_is long rest rows line e = rw (found_is h e)

  pub location_bad : r ≡ located.No → feature_from (location - at) (part first end s) (drop location s) ≡ no
  unfolding feature_from
  location_bad e = rw (← h.is, e)

  pub location_short : r ≡ located.Cut → feature_from (location - at) (part first end s) (drop location s) ≡ cut
  unfolding feature_from
  location_short e = rw (← h.is, e)
