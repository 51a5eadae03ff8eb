-- What is known of rooms and a head for which number 10 is not due.
use Rattle.std.specs.Prelude.{ℕ, zero, suc, ◌+◌, ◌-◌, ◌*◌, ◌/◌, ◌≤◌, ◌<◌, ◌≡◌, refl, Bool, true, false, ◌&&◌, List, length, get_or, eqb, Option, Some, None}
use Rattle.std.proofs.lemmas.Bool.{false≢true}
use Rattle.std.proofs.Common.{arith, lt_of_not-le, leb-true, eqb-true, ne_eqb}
use Rattle.std.proofs.Math.Decide.{dec_le}
use Rattle.spec_format.specs.Record.{most}
use Rattle.spec_format.specs.Rooms.{Rooms, span_fine, text_fine, source_fine, contig_text_fine, row_text_fine, row_perhaps_fine, rows_fine, reference_row_fine, comment_row_fine, qualifier_row_fine, qualifiers_fine, features_fine, lengths_fine, head_fine, counts_fine}
use Rattle.spec_format.specs.declared.Span.{Span}
use Rattle.spec_format.specs.declared.SourceText.{SourceText}
use Rattle.spec_format.specs.declared.ContigText.{ContigText}
use Rattle.spec_format.specs.declared.Head.{Head}
use Rattle.judge_rooms.specs.Parts.{feature_next}
use Rattle.judge_rooms.specs.Steps.{and_left, and_right, span_within, rows_each, feature_located, features_step, after_next}
use Rattle.spec_format.specs.Impossible.{impossible}

-- ---- the facts

abbrev pub SpanIn : List ℕ → Span → Type 0
SpanIn store s = s.start + s.length ≤ length store

abbrev pub TextIn : List ℕ → Option Span → Type 0
TextIn store None = Unit
TextIn store (Some s) = SpanIn store s

abbrev pub SourceIn : List ℕ → Option SourceText → Type 0
SourceIn store None = Unit
SourceIn store (Some s) = SpanIn store s.text × TextIn store s.organism

abbrev pub ContigIn : List ℕ → Option ContigText → Type 0
ContigIn store None = Unit
ContigIn store (Some c) = SpanIn store c.text

-- the text whose start and length stand at a place of a room of rows
abbrev pub RowText : List ℕ → List ℕ → ℕ → Type 0
RowText store room at = get_or room at 0 + get_or room (at + 1) 0 ≤ length store

-- the same of one that may be absent, with its length plus one
abbrev pub RowPerhaps : List ℕ → List ℕ → ℕ → Type 0
RowPerhaps store room at = 0 < get_or room (at + 1) 0 → get_or room at 0 + (get_or room (at + 1) 0 - 1) ≤ length store

pub record LengthsIn (r : Rooms) : Type 0 where
  pub texts : length r.texts ≤ most
  pub references : length r.references / 14 ≤ most
  pub comments : length r.comments / 2 ≤ most
  pub features : length r.features / 8 ≤ most
  pub qualifiers : length r.qualifiers / 4 ≤ most
  pub locations : length r.locations / 7 ≤ most
  pub letters : length r.letters ≤ most

pub record HeadIn (store : List ℕ) (h : Head) : Type 0 where
  pub name : TextIn store h.name
  pub molecule : TextIn store h.molecule
  pub division : SpanIn store h.division
  pub definition : TextIn store h.definition
  pub accession : TextIn store h.accession
  pub version : TextIn store h.version
  pub dblink : TextIn store h.dblink
  pub keywords : TextIn store h.keywords
  pub source : SourceIn store h.source

pub record CountsIn (r : Rooms) (h : Head) : Type 0 where
  pub references : 14 * h.references ≤ length r.references
  pub comments : 2 * h.comments ≤ length r.comments
  pub features : 8 * h.features ≤ length r.features
  pub letters : h.letters ≤ length r.letters

pub record ReferenceIn (store rows : List ℕ) (at : ℕ) : Type 0 where
  pub text : RowText store rows at
  pub authors : RowPerhaps store rows (at + 2)
  pub consrtm : RowPerhaps store rows (at + 4)
  pub title : RowText store rows (at + 6)
  pub journal : RowPerhaps store rows (at + 8)
  pub pubmed : RowPerhaps store rows (at + 10)
  pub remark : RowPerhaps store rows (at + 12)

pub record QualifierIn (store rows : List ℕ) (at : ℕ) : Type 0 where
  pub key : RowText store rows at
  pub value : RowPerhaps store rows (at + 2)

-- the qualifiers from row `first` up to row `end`
pub record QualifiersIn (store rows : List ℕ) (first end : ℕ) : Type 0 where
  pub inside : 4 * end ≤ length rows
  pub each : (j : ℕ) → first ≤ j → j < end → QualifierIn store rows (4 * j)

-- a feature without qualifiers has none that lie anywhere
pub record FeatureIn (r : Rooms) (at : ℕ) : Type 0 where
  pub kind : RowText r.texts r.features at
  pub location : RowText r.texts r.features (at + 2)
  pub qualifiers : 0 < get_or r.features (at + 5) 0
      → QualifiersIn r.texts r.qualifiers (get_or r.features (at + 4) 0) (get_or r.features (at + 4) 0 + get_or r.features (at + 5) 0)

pub record RoomsIn (r : Rooms) (h : Head) : Type 0 where
  pub lengths : LengthsIn r
  pub head : HeadIn r.texts h
  pub counts : CountsIn r h
  pub reference : (i : ℕ) → i < h.references → ReferenceIn r.texts r.references (14 * i)
  pub comment : (i : ℕ) → i < h.comments → RowText r.texts r.comments (2 * i)
  pub feature : (i : ℕ) → i < h.features → FeatureIn r (8 * i)

-- ---- from the tests

text_in : (store : List ℕ) (t : Option Span) → text_fine (length store) t ≡ true → TextIn store t
text_in store None h = tt
text_in store (Some s) h = span_within _ _ _ h

source_in : (store : List ℕ) (t : Option SourceText) → source_fine (length store) t ≡ true → SourceIn store t
source_in store None h = tt
source_in store (Some s) h = (
  span_within _ _ _ (and_left (span_fine (length store) s.text.start s.text.length) (text_fine (length store) s.organism) h),
  text_in store s.organism (and_right (span_fine (length store) s.text.start s.text.length) (text_fine (length store) s.organism) h),
)

pub contig_in_lem : (r : Rooms) (c : Option ContigText) → contig_text_fine r c ≡ true → ContigIn r.texts c
contig_in_lem r None h = tt
contig_in_lem r (Some c) h = span_within _ _ _ (and_left (span_fine (length r.texts) c.text.start c.text.length) _ h)

perhaps_in_lem : (r : Rooms) (rows : List ℕ) (at : ℕ) → row_perhaps_fine r rows at ≡ true → RowPerhaps r.texts rows at
perhaps_in_lem r rows at h l = span_within _ _ _ (rw (ne_eqb (get_or rows (at + 1) 0) 0 (λ e. omega arith)) at h)

ruleset parts = (and_left, and_right)

pub lengths_in : (r : Rooms) → lengths_fine r ≡ true → LengthsIn r
unfolding lengths_fine
lengths_in r h =
    record {
      texts = leb-true _ _ (search parts depth 12);
      references = leb-true _ _ (search parts depth 12);
      comments = leb-true _ _ (search parts depth 12);
      features = leb-true _ _ (search parts depth 12);
      qualifiers = leb-true _ _ (search parts depth 12);
      locations = leb-true _ _ (search parts depth 12);
      letters = leb-true _ _ (search parts depth 12);
    }

pub head_in : (r : Rooms) (h : Head) → head_fine r h ≡ true → HeadIn r.texts h
unfolding head_fine
head_in r h e =
    record {
      name = text_in r.texts h.name (search parts depth 12);
      molecule = text_in r.texts h.molecule (search parts depth 12);
      division = span_within (length r.texts) h.division.start h.division.length (search parts depth 12);
      definition = text_in r.texts h.definition (search parts depth 12);
      accession = text_in r.texts h.accession (search parts depth 12);
      version = text_in r.texts h.version (search parts depth 12);
      dblink = text_in r.texts h.dblink (search parts depth 12);
      keywords = text_in r.texts h.keywords (search parts depth 12);
      source = source_in r.texts h.source (search parts depth 12);
    }

pub counts_in : (r : Rooms) (h : Head) → counts_fine r h ≡ true → CountsIn r h
unfolding counts_fine
counts_in r h e =
    let a : h.references ≤ length r.references / 14 = leb-true _ _ (search parts depth 12) in
    let b : h.comments ≤ length r.comments / 2 = leb-true _ _ (search parts depth 12) in
    let c : h.features ≤ length r.features / 8 = leb-true _ _ (search parts depth 12) in
    record { references = omega arith; comments = omega arith; features = omega arith; letters = leb-true _ _ (search parts depth 12) }

pub reference_in_lem : (r : Rooms) (at : ℕ) → reference_row_fine r at ≡ true → ReferenceIn r.texts r.references at
unfolding reference_row_fine
reference_in_lem r at h =
    record {
      text = span_within _ _ _ (search parts depth 12);
      authors = perhaps_in_lem r r.references (at + 2) (search parts depth 12);
      consrtm = perhaps_in_lem r r.references (at + 4) (search parts depth 12);
      title = span_within _ _ _ (search parts depth 12);
      journal = perhaps_in_lem r r.references (at + 8) (search parts depth 12);
      pubmed = perhaps_in_lem r r.references (at + 10) (search parts depth 12);
      remark = perhaps_in_lem r r.references (at + 12) (search parts depth 12);
    }

pub comment_in_lem : (r : Rooms) (at : ℕ) → comment_row_fine r at ≡ true → RowText r.texts r.comments at
unfolding comment_row_fine
comment_in_lem r at h = span_within _ _ _ h

qualifier_in_lem : (r : Rooms) (at : ℕ) → qualifier_row_fine r at ≡ true → QualifierIn r.texts r.qualifiers at
unfolding qualifier_row_fine
qualifier_in_lem r at h = record { key = span_within _ _ _ (search parts depth 12); value = perhaps_in_lem r r.qualifiers (at + 2) (search parts) }

pub qualifiers_in_lem : (r : Rooms) (from first count : ℕ) → qualifiers_fine r from first count ≡ true → QualifiersIn r.texts r.qualifiers first (first + count)
unfolding qualifiers_fine
qualifiers_in_lem r from first count h =
    let w : first + count ≤ length r.qualifiers / 4 = span_within _ _ _ (search parts depth 12) in
    let e : rows_fine (qualifier_row_fine r) 4 first count ≡ true = search parts in
    record { inside = omega arith; each = λ j p q. qualifier_in_lem r (4 * j) (rows_each (qualifier_row_fine r) 4 first count j e p q) }

-- the feature at a place, after which another may stand
pub feature_in_lem : (r : Rooms) (at from f : ℕ) → feature_next r at from ≡ Some f → FeatureIn r at
unfolding feature_next
feature_in_lem r at from f h = go _ refl _ refl _ refl
  where
    go : (x : Bool) → (row_text_fine r r.features at && row_text_fine r r.features (at + 2)) ≡ x → (y : Bool)
        → eqb (get_or r.features (at + 5) 0) 0 ≡ y → (z : Bool)
        → qualifiers_fine r from (get_or r.features (at + 4) 0) (get_or r.features (at + 5) 0) ≡ z → FeatureIn r at
    go false p y q z s = let e : None ≡ Some f = rw p at h in impossible cc
    go true p true q z s =
        record {
          kind = span_within _ _ _ (and_left _ _ p);
          location = span_within _ _ _ (and_right (row_text_fine r r.features at) _ p);
          qualifiers = λ l. let e : get_or r.features (at + 5) 0 ≡ 0 = eqb-true _ _ q in absurd (omega arith);
        }
    go true p false q true s =
        record {
          kind = span_within _ _ _ (and_left _ _ p);
          location = span_within _ _ _ (and_right (row_text_fine r r.features at) _ p);
          qualifiers = λ l. qualifiers_in_lem r from _ _ s;
        }
    go true p false q false s = let e : None ≡ Some f = rw (p, q, s) at h in impossible cc

pub features_each : (r : Rooms) (i from n j : ℕ) → features_fine r i from n ≡ true → i ≤ j → j < i + n → FeatureIn r (8 * j)
features_each r i from zero j h p q = absurd (omega arith)
features_each r i from (suc n) j h p q = go (feature_next r (8 * i) from) refl (rw features_step at h) (λ f. features_each r (i + 1) f n j)
  where
    go : (o : Option ℕ) → feature_next r (8 * i) from ≡ o → after_next r i n (feature_next r (8 * i) from) ≡ true
        → ((f : ℕ) → features_fine r (i + 1) f n ≡ true → i + 1 ≤ j → j < i + 1 + n → FeatureIn r (8 * j)) → FeatureIn r (8 * j)
    go None e g ih = absurd (false≢true (rw e at g))
    go (Some f) e g ih =
        elim (dec_le (i + 1) j) [
          | yes m ↦ ih f (and_right (feature_located r (8 * i)) _ (rw e at g)) m (omega arith)
          | no m ↦ (let k : j ≡ i = omega (arith, lt_of_not-le m) in rw k (feature_in_lem r (8 * i) from f e))
        ]
