-- The answers of the scans of qualifiers as readers' answers, with the lengths of the texts that stand there.
use Rattle.std.specs.Prelude.{ℕ, ◌+◌, ◌≤◌, ◌<◌, ◌≡◌, Bool, List, length, drop}
use Rattle.spec_format.specs.Bytes.{May, absent, is}
use Rattle.spec_format.specs.Table.{Qualifier}
use Rattle.spec_format.specs.Readers.{Ans, got, no, cut}
use Rattle.spec_format.specs.Rooms.{pieces_text, qualifier_pieces, texts_of}
use Rattle.scan_bytes.specs.Places.{part}
use Rattle.read_feature_value.specs.Reads.{read_text, Placed}
use Rattle.read_feature_qualifiers.specs.declared.ValueAt.{ValueAt}
use Rattle.read_feature_qualifiers.specs.declared.ValueAt.TheVariants as value
use Rattle.read_feature_qualifiers.specs.declared.QualifierAt.{QualifierAt}
use Rattle.read_feature_qualifiers.specs.declared.QualifierAt.TheVariants as one
use Rattle.read_feature_qualifiers.specs.declared.QualifiersAt.{QualifiersAt}
use Rattle.read_feature_qualifiers.specs.declared.QualifiersAt.TheVariants as all

-- the value that stands in the slice s
abbrev pub value_text : List ℕ → Bool → ℕ → ValueAt → May (List ℕ)
value_text s joined indent value.Absent = absent
value_text s joined indent (value.With from quoted n) = is (read_text quoted joined indent (drop from s))

-- and ends at `next`
abbrev pub ValueStands : List ℕ → Bool → ℕ → ValueAt → ℕ → Type 0
ValueStands s joined indent value.Absent next = Unit
ValueStands s joined indent (value.With from quoted n) next = (n < length s) × Placed s from joined indent quoted n next

-- the qualifier that stands in the slice s
abbrev pub qualifier_in : List ℕ → ℕ → ℕ → ℕ → Bool → ValueAt → Qualifier
qualifier_in s indent first end joined v = record { key = part first end s; value = value_text s joined indent v }

pub record QualifierKnown (s : List ℕ) (at indent : ℕ) (o : Ans Qualifier) (first end : ℕ) (joined : Bool) (v : ValueAt) (bytes next : ℕ) : Type 0 where
  pub is : o ≡ got (qualifier_in s indent first end joined v) (drop next s)
  pub stands : ValueStands s joined indent v next
  pub sized : bytes ≡ length (pieces_text (qualifier_pieces (qualifier_in s indent first end joined v)))
  pub key : first < end
  pub keyed : end ≤ length s
  pub small : bytes + at < next
  pub within : next ≤ length s

abbrev pub QualifierAs : List ℕ → ℕ → ℕ → Ans Qualifier → QualifierAt → Type 0
QualifierAs s at indent o (one.Got first end joined v bytes next) = QualifierKnown s at indent o first end joined v bytes next
QualifierAs s at indent o one.No = o ≡ no
QualifierAs s at indent o one.Cut = o ≡ cut

pub record QualifierRead (s : List ℕ) (at indent : ℕ) (o : Ans Qualifier) (r : QualifierAt) : Type 0 where
  pub is : QualifierAs s at indent o r

-- the qualifiers qs stand from `at` up to `next`
pub record QualifiersKnown (s : List ℕ) (at : ℕ) (qs : List Qualifier) (o : Ans (List Qualifier)) (count bytes next : ℕ) : Type 0 where
  pub is : o ≡ got qs (drop next s)
  pub counted : count ≡ length qs
  pub sized : bytes ≡ length (texts_of qualifier_pieces qs)
  pub from : at ≤ next
  pub within : next ≤ length s
  pub small : bytes + at ≤ next
  pub few : count + at ≤ next

abbrev pub QualifiersAs : List ℕ → ℕ → List Qualifier → Ans (List Qualifier) → QualifiersAt → Type 0
QualifiersAs s at qs o (all.Got count bytes next) = QualifiersKnown s at qs o count bytes next
QualifiersAs s at qs o all.Cut = o ≡ cut

pub record QualifiersRead (s : List ℕ) (at : ℕ) (qs : List Qualifier) (o : Ans (List Qualifier)) (r : QualifiersAt) : Type 0 where
  pub is : QualifiersAs s at qs o r
