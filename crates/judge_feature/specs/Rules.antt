-- What a rule asks of features, and what is known of the rooms where they lie.
use Rattle.std.specs.Prelude.{ℕ, ◌+◌, ◌≤◌, ◌<◌, ◌≡◌, refl, Bool, true, false, ◌&&◌, List, length}
use Rattle.spec_format.specs.Bytes.{all}
use Rattle.spec_format.specs.Table.{Qualifier, Feature}
use Rattle.spec_format.specs.Location.{locates}
use Rattle.spec_format.specs.WellFormed.{if_is, kind_fine, key_fine, value_fine, qualifier_fine, feature_fine}
use Rattle.spec_format.specs.Keeping.{kind_kept, no_slash, value_kept, qualifier_kept, feature_kept}
use Rattle.judge_rooms.specs.Parts.{feature_rooms}
use Rattle.judge_rooms.specs.Facts.{QualifierIn, QualifiersIn, FeatureIn}
use Rattle.judge_header.specs.declared.Rule.{Rule}
use Rattle.judge_header.specs.declared.Rule.TheVariants as rule
use Rattle.spec_format.specs.Record.{most}

abbrev pub kind_of : Rule → List ℕ → Bool
kind_of (rule.Fine W) k = kind_fine W k
kind_of (rule.Kept W) k = kind_kept k

abbrev pub location_of : Rule → List ℕ → Bool
location_of (rule.Fine W) l = true
location_of (rule.Kept W) l = no_slash l

abbrev pub key_of : Rule → List ℕ → Bool
key_of (rule.Fine W) k = key_fine W k
key_of (rule.Kept W) k = true

abbrev pub value_of : Rule → List ℕ → List ℕ → Bool
value_of (rule.Fine W) k v = value_fine k v
value_of (rule.Kept W) k v = value_kept W k v

unfoldable pub qualifier_of : Rule → Qualifier → Bool
qualifier_of r q = key_of r q.key && if_is (value_of r q.key) q.value

unfoldable pub feature_of : Rule → Feature → Bool
feature_of r f = kind_of r f.kind && (location_of r f.location && all (qualifier_of r) f.qualifiers)

-- the two rules are those of the format, but for the reading of a location
pub fine_is : (W : ℕ) (f : Feature) → (locates false f.location && feature_of (rule.Fine W) f) ≡ feature_fine W f
unfolding feature_of qualifier_of feature_fine qualifier_fine
fine_is W f = go (kind_fine W f.kind) (locates false f.location) (all (qualifier_of (rule.Fine W)) f.qualifiers)
  where
    go : (a b c : Bool) → (b && (a && c)) ≡ (a && (b && c))
    go true b c = refl
    go false true c = refl
    go false false c = refl

pub kept_is : (W : ℕ) (fs : List Feature) → all (feature_of (rule.Kept W)) fs ≡ all (feature_kept W) fs
unfolding feature_of qualifier_of feature_kept qualifier_kept
kept_is W fs = refl

pub record QualifierKnown (texts rows : List ℕ) (at : ℕ) : Type 0 where
  pub small : length texts ≤ most
  pub row : at + 3 < length rows
  pub inside : QualifierIn texts rows at

pub record QualifiersKnown (texts rows : List ℕ) (first end : ℕ) : Type 0 where
  pub small : length texts ≤ most
  pub order : first ≤ end
  pub inside : QualifiersIn texts rows first end

pub record FeatureKnown (texts features qualifiers : List ℕ) (at : ℕ) : Type 0 where
  pub small : length texts ≤ most
  pub row : at + 5 < length features
  pub inside : FeatureIn (feature_rooms texts features qualifiers) at
