-- Heads of features and qualifiers in a slice, and what their readers promise: of a feature what stands before its location, of a qualifier its key.
use Rattle.std.specs.Prelude.{ℕ, ◌+◌, ◌-◌, ◌≤◌, ◌<◌, ◌≡◌, refl, false, List, length, drop}
use Rattle.std.proofs.Common.{ap}
use Rattle.spec_format.specs.Bytes.{bytes, spaces, not_blank}
use Rattle.spec_format.specs.Table.{Qualifier, Feature}
use Rattle.spec_format.specs.Readers.{Ans, got, no, cut, bind, tag, until1, spaces1, line_end}
use Rattle.spec_format.specs.Features.{qualifier_key, value_of, qualifier, feature_kind, feature_from, feature}
use Rattle.spec_format.specs.Deep.{asked, deep_from, deep_feature}
use Rattle.scan_bytes.specs.Places.{part}
use Rattle.read_feature_names.specs.declared.Kind.{Kind}
use Rattle.read_feature_names.specs.declared.Kind.TheVariants as kind
use Rattle.read_feature_names.specs.declared.Key.{Key}
use Rattle.read_feature_names.specs.declared.Key.TheVariants as key

-- `features_header` from its last words on, and from the blanks before them on
abbrev pub header_words : List ℕ → Ans (List ℕ)
header_words s = bind (tag (bytes "Location/Qualifiers") s) λ _ s. line_end s

abbrev pub header_gap : List ℕ → Ans (List ℕ)
header_gap s = bind (until1 not_blank s) λ _ s. header_words s

-- what stands before a feature's location: its kind, and all of it as the feature's indent
pub record Head : Type 0 where
  pub indent : ℕ
  pub kind : List ℕ

-- from the spaces after the kind on, from the kind on, where n bytes stand before it, and whole
abbrev pub kind_gap : ℕ → List ℕ → List ℕ → Ans Head
kind_gap n k s = bind (spaces1 s) λ after s. got (record { indent = n + length k + length after; kind = k }) s

abbrev pub kind_from : ℕ → List ℕ → Ans Head
kind_from n s = bind (feature_kind s) λ k s. kind_gap n k s

abbrev pub feature_head : List ℕ → Ans Head
feature_head s = bind (spaces1 s) λ before s. kind_from (length before) s

-- the head of the feature whose line starts at `at`
abbrev pub head_at : List ℕ → ℕ → Kind → Ans Head
head_at s at (kind.Got first end next) = got (record { indent = next - at; kind = part first end s }) (drop next s)
head_at s at kind.No = no
head_at s at kind.Cut = cut

abbrev pub PastKind : List ℕ → ℕ → Kind → Type 0
PastKind s at (kind.Got first end next) = (at < first) × (first < end) × (end < next) × (next ≤ length s)
PastKind s at kind.No = Unit
PastKind s at kind.Cut = Unit

pub record KindRead (s : List ℕ) (at : ℕ) (o : Ans Head) (r : Kind) : Type 0 where
  pub is : head_at s at r ≡ o
  pub place : PastKind s at r

-- whatever is made of head and rest is made of the reader's three steps
head_then : {A : Type 0} (f : Head → List ℕ → Ans A) (s : List ℕ) →
    (bind (spaces1 s) λ before s. bind (feature_kind s) λ k s. bind (spaces1 s) λ after s.
    f (record { indent = length before + length k + length after; kind = k }) s) ≡ bind (feature_head s) f
head_then {A} f s = go (spaces1 s)
  where
    gap : (n : ℕ) (k : List ℕ) (o : Ans (List ℕ)) → (bind o λ after s. f (record { indent = n + length k + length after; kind = k }) s) ≡
        bind (bind o λ after s. got (record { indent = n + length k + length after; kind = k }) s) f
    gap n k (got a r) = refl
    gap n k no = refl
    gap n k cut = refl

    from : (n : ℕ) (o : Ans (List ℕ)) → (bind o λ k s. bind (spaces1 s) λ after s. f (record { indent = n + length k + length after; kind = k }) s) ≡
        bind (bind o λ k s. kind_gap n k s) f
    from n (got k r) = gap n k (spaces1 r)
    from n no = refl
    from n cut = refl

    go : (o : Ans (List ℕ)) → (bind o λ before s. bind (feature_kind s) λ k s. bind (spaces1 s) λ after s.
        f (record { indent = length before + length k + length after; kind = k }) s) ≡ bind (bind o λ before s. kind_from (length before) s) f
    go (got b r) = from (length b) (feature_kind r)
    go no = refl
    go cut = refl

-- a feature is its head and what follows, and so is the test of number 14
pub feature_is : (s : List ℕ) → feature s ≡ bind (feature_head s) λ h z. feature_from h.indent h.kind z
unfolding feature
feature_is s = head_then (λ h z. feature_from h.indent h.kind z) s

pub deep_is : (s : List ℕ) → deep_feature s ≡ asked (bind (feature_head s) λ h z. deep_from false h.indent z)
unfolding deep_feature
deep_is s = ap asked (head_then (λ h z. deep_from false h.indent z) s)

-- a qualifier's key behind its `/`, and behind its indent too
abbrev pub key_slash : List ℕ → Ans (List ℕ)
key_slash s = bind (tag (bytes "/") s) λ _ s. qualifier_key s

abbrev pub key_head : ℕ → List ℕ → Ans (List ℕ)
key_head indent s = bind (tag (spaces indent) s) λ _ s. key_slash s

-- the qualifier, once its key is read
abbrev pub with_key : ℕ → Ans (List ℕ) → Ans Qualifier
with_key indent o = bind o λ k s. bind (value_of indent k s) λ v s. got (record { key = k; value = v }) s

abbrev pub key_of : List ℕ → Key → Ans (List ℕ)
key_of s (key.Got first end) = got (part first end s) (drop end s)
key_of s key.No = no
key_of s key.Cut = cut

abbrev pub PastKey : List ℕ → ℕ → Key → Type 0
PastKey s at (key.Got first end) = (at < first) × (first < end) × (end ≤ length s)
PastKey s at key.No = Unit
PastKey s at key.Cut = Unit

pub record KeyRead (s : List ℕ) (at : ℕ) (o : Ans (List ℕ)) (r : Key) : Type 0 where
  pub is : key_of s r ≡ o
  pub place : PastKey s at r

-- a qualifier is its key's head and what follows
pub qualifier_is : (indent : ℕ) (s : List ℕ) → qualifier indent s ≡ with_key indent (key_head indent s)
unfolding qualifier
qualifier_is indent s = go (tag (spaces indent) s)
  where
    text : (o : Ans (List ℕ)) → (bind o λ k s. bind (value_of indent k s) λ v s. got (record { key = k; value = v }) s) ≡ with_key indent o
    text o = refl

    slash : (o : Ans Unit) → (bind o λ _ s. bind (qualifier_key s) λ k s. bind (value_of indent k s) λ v s. got (record { key = k; value = v }) s) ≡ with_key indent (bind o λ _ s. qualifier_key s)
    slash (got u r) = refl
    slash no = refl
    slash cut = refl

    go : (o : Ans Unit) →
        (bind o λ _ s. bind (tag (bytes "/") s) λ _ s. bind (qualifier_key s) λ k s. bind (value_of indent k s) λ v s. got (record { key = k; value = v }) s)
        ≡ with_key indent (bind o λ _ s. key_slash s)
    go (got u r) = slash (tag (bytes "/") r)
    go no = refl
    go cut = refl
