-- The answers of the scans of features as readers' answers, with the lengths of the texts that stand there.
use Rattle.std.specs.Prelude.{ℕ, ◌+◌, ◌-◌, ◌≤◌, ◌<◌, ◌≡◌, false, List, length, drop}
use Rattle.spec_format.specs.Bytes.{each}
use Rattle.spec_format.specs.Table.{Feature}
use Rattle.spec_format.specs.Readers.{Ans, got, no, cut, bind, members, many0, try_turn, while_fits}
use Rattle.spec_format.specs.Features.{qualifier, feature}
use Rattle.spec_format.specs.Location.{rows_in}
use Rattle.spec_format.specs.Rooms.{feature_text, qualifier_count, location_count}
use Rattle.scan_bytes.specs.Places.{part}
use Rattle.read_feature_bare.specs.Bared.{bare_text}
use Rattle.read_feature_table.specs.declared.FeatureAt.{FeatureAt}
use Rattle.read_feature_table.specs.declared.FeatureAt.TheVariants as one
use Rattle.read_feature_table.specs.declared.Features.{Features}

-- a feature that starts at `at`: its kind is first..end, its location is `long` bytes from `location` on with `rows` rows, and its qualifiers start at `rest`
pub record Placed (s : List ℕ) (at first end location long rows rest : ℕ) : Type 0 where
  pub before : at < first
  pub kind : first < end
  pub gap : end < location
  pub sized : long ≡ length (bare_text (location - at) (drop location s))
  pub rowed : rows ≡ length (rows_in false (bare_text (location - at) (drop location s)))
  pub few : rows ≤ long
  pub small : long + location ≤ rest
  pub ahead : location < rest
  pub within : rest ≤ length s

-- `feature_from`, once the location is read
abbrev pub feature_rest : List ℕ → ℕ → ℕ → ℕ → ℕ → ℕ → Ans Feature
feature_rest s at first end location rest =
    bind (many0 (qualifier (location - at)) (drop rest s)) λ qualifiers z.
    got (record {
      kind = part first end s;
      location = bare_text (location - at) (drop location s);
      qualifiers = qualifiers;
      rows = rows_in false (bare_text (location - at) (drop location s));
    }) z

pub record FeatureKnown (s : List ℕ) (at : ℕ) (o : Ans Feature) (qualifiers rows bytes next : ℕ) : Type 0 where
  pub the : Feature
  pub is : o ≡ got the (drop next s)
  pub counted : qualifiers ≡ length the.qualifiers
  pub rowed : rows ≡ length the.rows
  pub sized : bytes ≡ length (feature_text the)
  pub within : next ≤ length s
  pub small : bytes + at < next
  pub few : qualifiers + at < next
  pub short : rows + at < next

abbrev pub FeatureAs : List ℕ → ℕ → Ans Feature → FeatureAt → Type 0
FeatureAs s at o (one.Got qualifiers rows bytes next) = FeatureKnown s at o qualifiers rows bytes next
FeatureAs s at o one.No = o ≡ no
FeatureAs s at o one.Cut = o ≡ cut

pub record FeatureRead (s : List ℕ) (at : ℕ) (o : Ans Feature) (r : FeatureAt) : Type 0 where
  pub is : FeatureAs s at o r

-- the features of a table
abbrev pub features_in : List ℕ → List Feature
features_in x = members (try_turn feature) x

-- the features fs stand from `at` up to where reading stopped
pub record FeaturesRead (s : List ℕ) (at : ℕ) (fs : List Feature) (r : Features) : Type 0 where
  pub ended : while_fits feature (drop at s) ≡ got fs (drop r.next s)
  pub count : r.count ≡ length fs
  pub qualifiers : r.qualifiers ≡ qualifier_count fs
  pub rows : r.rows ≡ location_count fs
  pub bytes : r.bytes ≡ length (each feature_text fs)
  pub from : at ≤ r.next
  pub within : r.next ≤ length s
  pub small : r.bytes + at ≤ r.next
  pub few : r.count + r.qualifiers + at ≤ r.next
  pub short : r.rows + at ≤ r.next
