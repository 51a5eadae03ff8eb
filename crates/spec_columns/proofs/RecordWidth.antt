-- Every line of the header, the features and CONTIG has at most W columns. LOCUS has 79 or more, a line of letters up to 75, whatever W is: they are left out here,
-- and shown wider in Outside.
use Rattle.std.specs.Prelude.{ℕ, ◌+◌, ◌-◌, ◌≤◌, ◌<◌, Bool, ◌≡◌, refl, length}
use Rattle.std.proofs.Common.{arith, leb-true}
use Rattle.std.proofs.Math.Bool.{true, false}
use mathlib.Core.List.{List, [], ◌∷◌, ◌++◌, append-nil}
use Rattle.std.proofs.Math.ListN.{length-append}
use Rattle.std.proofs.lemmas.List.{length-replicate}
use Rattle.spec_format.specs.Bytes.{May, absent, is, bytes, each, all, pick}
use Rattle.spec_format.specs.Table.{Source, Reference, Qualifier, Feature, Contig, Table}
use Rattle.spec_format.specs.Location.{locates}
use Rattle.spec_format.specs.Write.{padded, field_lines, maybe_lines, source_lines, reference_lines, header_lines, comma_key, key_text, quotes, value_lines, qualifier_text, qualifier_lines, feature_lines, features_lines, contig_lines}
use Rattle.spec_format.specs.WellFormed.{kind_fine, key_fine, qualifier_fine, feature_fine, well_formed}
use Rattle.spec_format.specs.Wrap.{wrap_text, wrap_location}
use Rattle.spec_public.specs.Public.{within}
use Rattle.spec_columns.specs.Tests.{and_left, and_right}
use Rattle.spec_columns.specs.FeatureLines.{kind_start}
use Rattle.spec_columns.specs.Width.{Narrow, narrow_append, narrow_start, narrow_end}
use Rattle.spec_columns.proofs.Width.{text_narrow, location_narrow}

narrow_none : (W : ℕ) → Narrow W W []
unfolding Narrow
narrow_none W y e = e

each_narrow :
    {A : Type 0} (W : ℕ) (p : A → Bool) (f : A → List ℕ) → ((x : A) → p x ≡ true → Narrow W W (f x)) → (xs : List A) → all p xs ≡ true → Narrow W W (each f xs)
each_narrow W p f k [] e = narrow_none W
each_narrow W p f k (x ∷ xs) e =
    narrow_append W W (f x) (each f xs) (k x (and_left (p x) (all p xs) e)) (each_narrow W p f k xs (and_right (p x) (all p xs) e))

all_true : {A : Type 0} (xs : List A) → all (λ x. true) xs ≡ true
all_true [] = refl
all_true (x ∷ xs) = all_true xs

module _ (W : ℕ) (wide : 60 ≤ W) where
  -- ---- the header

  field_narrow : (w t : List ℕ) → length (padded 12 w) ≤ 12 → Narrow W W (field_lines W w t)
  unfolding field_lines
  field_narrow w t h = text_narrow W (padded 12 w) 12 false t (omega arith) (omega arith)

  maybe_narrow : (w : List ℕ) (t : May (List ℕ)) → length (padded 12 w) ≤ 12 → Narrow W W (maybe_lines W w t)
  maybe_narrow w absent h = narrow_none W
  maybe_narrow w (is t) h = field_narrow w t h

  source_narrow : (s : May Source) → Narrow W W (source_lines W s)
  source_narrow absent = narrow_none W
  source_narrow (is s) =
      narrow_append W W _ _ (field_narrow (bytes "SOURCE") s.text (omega arith)) (maybe_narrow (bytes "  ORGANISM") s.organism (omega arith))

  reference_narrow : (r : Reference) → Narrow W W (reference_lines W r)
  unfolding reference_lines
  reference_narrow r =
      narrow_append W W _ _ (narrow_append W W _ _ (narrow_append W W _ _ (narrow_append W W _ _ (narrow_append W W _ _ (narrow_append W W _ _
      (field_narrow (bytes "REFERENCE") r.text (omega arith)) (maybe_narrow (bytes "  AUTHORS") r.authors (omega arith)))
      (maybe_narrow (bytes "  CONSRTM") r.consrtm (omega arith))) (field_narrow (bytes "  TITLE") r.title (omega arith)))
      (maybe_narrow (bytes "  JOURNAL") r.journal (omega arith))) (maybe_narrow (bytes "   PUBMED") r.pubmed (omega arith)))
      (maybe_narrow (bytes "  REMARK") r.remark (omega arith))

  header_narrow : (t : Table) → Narrow W W (header_lines W t)
  unfolding header_lines
  header_narrow t =
      narrow_append W W _ _ (narrow_append W W _ _ (narrow_append W W _ _ (narrow_append W W _ _ (narrow_append W W _ _ (narrow_append W W _ _ (narrow_append W W _ _
      (maybe_narrow (bytes "DEFINITION") t.definition (omega arith)) (maybe_narrow (bytes "ACCESSION") t.accession (omega arith)))
      (maybe_narrow (bytes "VERSION") t.version (omega arith))) (maybe_narrow (bytes "DBLINK") t.dblink (omega arith)))
      (maybe_narrow (bytes "KEYWORDS") t.keywords (omega arith))) (source_narrow t.source))
      (each_narrow W (λ r. true) (reference_lines W) (λ r e. reference_narrow r) t.references (all_true t.references)))
      (each_narrow W (λ c. true) (field_lines W (bytes "COMMENT")) (λ c e. field_narrow (bytes "COMMENT") c (omega arith)) t.comments (all_true t.comments))

  -- ---- features and CONTIG

  key_short : (k : List ℕ) → key_fine W k ≡ true → length k + 25 ≤ W
  key_short k e = omega (arith, leb-true (length k) (W - 25) (and_left _ _ e))

  value_narrow : (k v : List ℕ) → length k + 25 ≤ W → Narrow W W (value_lines W k v)
  unfolding value_lines
  value_narrow k v h = go (comma_key k)
    where
      go : (c : Bool) → Narrow W W (pick c (wrap_location W (key_text k ++ bytes "=") 21 v) (wrap_text W (key_text k ++ bytes "=") 21 (quotes k) v))
      go true = location_narrow W (key_text k ++ bytes "=") 21 v (omega arith) (simp length-append (omega arith))
      go false = text_narrow W (key_text k ++ bytes "=") 21 (quotes k) v (omega arith) (simp length-append (omega arith))

  text_of : (k : List ℕ) (v : May (List ℕ)) → length k + 25 ≤ W → Narrow W W (qualifier_text W k v)
  text_of k absent h = narrow_start W (key_text k) (bytes "\n") (simp length-append (omega arith)) (narrow_end W (W - length (key_text k)))
  text_of k (is v) h = value_narrow k v h

  qualifier_narrow : (q : Qualifier) → qualifier_fine W q ≡ true → Narrow W W (qualifier_lines W q)
  unfolding qualifier_lines qualifier_fine
  qualifier_narrow q e = text_of q.key q.value (key_short q.key (and_left _ _ e))

  kind_short : (k : List ℕ) → kind_fine W k ≡ true → length (kind_start k) < W
  kind_short k e = let h : length k ≤ W - 7 = leb-true (length k) (W - 7) (and_left _ _ e) in simp (length-append, length-replicate) (omega arith)

  feature_narrow : (f : Feature) → feature_fine W f ≡ true → Narrow W W (feature_lines W f)
  unfolding feature_lines feature_fine
  feature_narrow f e =
      narrow_append W W _ _ (location_narrow W (kind_start f.kind) 21 f.location (omega arith) (kind_short f.kind (and_left _ _ e)))
      (each_narrow W (qualifier_fine W) (qualifier_lines W) qualifier_narrow f.qualifiers
      (and_right (locates false f.location) _ (and_right (kind_fine W f.kind) _ e)))

  features_narrow : (fs : List Feature) → all (feature_fine W) fs ≡ true → Narrow W W (features_lines W fs)
  unfolding features_lines
  features_narrow [] e = narrow_none W
  features_narrow (f ∷ fs) e =
      narrow_append W W _ _ (narrow_start W (bytes "FEATURES             Location/Qualifiers") (bytes "\n") (omega arith) (narrow_end W (W - 40)))
      (each_narrow W (feature_fine W) (feature_lines W) feature_narrow (f ∷ fs) e)

  contig_narrow : (c : May Contig) → Narrow W W (contig_lines W c)
  contig_narrow absent = narrow_none W
  contig_narrow (is c) = location_narrow W (bytes "CONTIG      ") 12 c.text (omega arith) (omega arith)

features_fine_lem : (W : ℕ) (truncate escape : Bool) (t : Table) → well_formed W truncate escape t ≡ true → all (feature_fine W) t.features ≡ true
unfolding well_formed
features_fine_lem W truncate escape t e = search (and_left, and_right)

record_narrow :
    (W : ℕ) (truncate escape : Bool) (t : Table) → 60 ≤ W → well_formed W truncate escape t ≡ true →
    Narrow W W (header_lines W t ++ features_lines W t.features ++ contig_lines W t.contig ++ bytes "//\n")
record_narrow W truncate escape t h e =
    narrow_append W W _ _ (narrow_append W W _ _ (narrow_append W W _ _ (header_narrow W h t)
    (features_narrow W h t.features (features_fine_lem W truncate escape t e))) (contig_narrow W h t.contig))
    (narrow_start W (bytes "//") (bytes "\n") (omega arith) (narrow_end W (W - 2)))

nothing_after : (W : ℕ) (x : List ℕ) → Narrow W W x → within W W x ≡ true
unfolding Narrow within
nothing_after W x p = rw (append-nil x) at (p [] refl)

-- at every width from 60 on, each line of a well-formed table's header, features, CONTIG and `//` has at most W columns
pub width :
    (W : ℕ) (truncate escape : Bool) (t : Table) → 60 ≤ W → well_formed W truncate escape t ≡ true →
    within W W (header_lines W t ++ features_lines W t.features ++ contig_lines W t.contig ++ bytes "//\n") ≡ true
width W truncate escape t h e =
    nothing_after W (header_lines W t ++ features_lines W t.features ++ contig_lines W t.contig ++ bytes "//\n") (record_narrow W truncate escape t h e)
