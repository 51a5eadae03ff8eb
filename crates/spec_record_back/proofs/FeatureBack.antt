-- A feature and the feature table, written and read.
use Prim.Native.Nat.{ℕ, suc, ◌+◌, ◌-◌, ◌<◌, ◌≤◌}
use Rattle.std.proofs.Common.{arith, ap, ◌∙◌, length-append}
use Rattle.std.specs.Prelude.{Bool, false, ◌&&◌, not, ◌≡◌, refl, leb}
use Rattle.std.proofs.Math.Bool.{true}
use mathlib.Core.List.{List, [], ◌∷◌, ◌++◌, append_assoc}
use Rattle.std.proofs.Math.ListN.{length}
use Rattle.std.proofs.lemmas.List.{length-replicate}
use borrow.Author.Tests.{leb-true}
use Rattle.spec_format.specs.Bytes.{bytes, spaces, some, starts, all, each, visible, but, slash}
use Rattle.spec_format.specs.Readers.{got, tag, until, line_end, more, try_turn, while_fits}
use Rattle.spec_format.specs.Features.{features_header, kind_text, feature}
use Rattle.spec_format.specs.Location.{locates}
use Rattle.spec_format.specs.Record.{features}
use Rattle.spec_format.specs.Table.{Feature}
use Rattle.spec_format.specs.Wrap.{comma_lines, wrap_location}
use Rattle.spec_format.specs.Write.{padded, qualifier_lines, feature_lines, features_lines}
use Rattle.spec_format.specs.WellFormed.{kind_fine, qualifier_fine, feature_fine}
use Rattle.spec_format.specs.Rooms.{feature_read}
use Rattle.spec_format.specs.Keeping.{kind_kept, no_slash, qualifier_kept, feature_kept}
use Rattle.spec_loops.specs.Loops.{try_shrinks}
use Rattle.spec_loops.proofs.Shrinks.{feature_small}
use Rattle.spec_location.specs.Bytes.{locates_some, locates_visible}
use Rattle.spec_rooms.specs.LocationRows.{rows_are}
use Rattle.spec_texts_back.specs.Tests.{and_left, and_right, all_head, all_tail, all_imp, all_first, starts_more}
use Rattle.spec_texts_back.specs.Pieces.{spaces_back, visible_but}
use Rattle.spec_texts_back.specs.Joins.{each_back}
use Rattle.spec_texts_back.specs.BareBack.{commas_starts}
use Rattle.spec_feature_names.specs.Taken.{any_kind}
use Rattle.spec_record_back.specs.QualifierBack.{outside, starts_outside}
use Rattle.spec_record_back.specs.FeatureBack.{feature_steps, spaces_last, no_feature}
use Rattle.spec_record_back.proofs.LocationBack.{qualifier_good, location_back}

all_both : {A : Type 0} (p q : A → Bool) (xs : List A) → all p xs ≡ true → all q xs ≡ true → all (λ x. p x && q x) xs ≡ true
all_both p q [] h k = refl
all_both p q (x ∷ xs) h k = cc (all_head p x xs h, all_head q x xs k, all_both p q xs (all_tail p x xs h) (all_tail q x xs k))

-- ---- a feature

-- the columns before the location
lead : List ℕ → List ℕ
lead k = spaces 5 ++ padded 15 k ++ bytes " "

lead_length : (k : List ℕ) → length k ≤ 15 → length (lead k) ≡ 21
unfolding lead
lead_length k h = simp length-append (omega (arith, length-replicate {A = ℕ} (15 - length k) 32))

lead_split : (k x : List ℕ) → lead k ++ x ≡ spaces 5 ++ (k ++ (spaces (suc (15 - length k)) ++ x))
unfolding lead
lead_split k x =
    regroup (spaces 5) k (spaces (15 - length k)) (bytes " ") x ∙ ap (λ (y : List ℕ). spaces 5 ++ (k ++ y)) (spaces_last (15 - length k) x)
  where
    regroup : (a k g e x : List ℕ) → ((a ++ (k ++ g)) ++ e) ++ x ≡ a ++ (k ++ (g ++ (e ++ x)))
    regroup a k g e x = simp append_assoc

lines_split :
    (W : ℕ) (f : Feature) (rest : List ℕ) → length f.kind ≤ 15 →
    feature_lines W f ++ rest ≡
    spaces 5 ++
    (f.kind ++
    (spaces (suc (15 - length f.kind)) ++
    (comma_lines (length f.location) W 21 21 f.location ++ (each (qualifier_lines W) f.qualifiers ++ rest))))
unfolding feature_lines wrap_location lead
lines_split W f rest h =
    ap (λ (n : ℕ). ((lead k ++ comma_lines (length f.location) W 21 n f.location) ++ each (qualifier_lines W) f.qualifiers) ++ rest) (lead_length k h) ∙
    regroup (lead k) (comma_lines (length f.location) W 21 21 f.location) (each (qualifier_lines W) f.qualifiers) rest ∙
    lead_split k (comma_lines (length f.location) W 21 21 f.location ++ (each (qualifier_lines W) f.qualifiers ++ rest))
  where
    k : List ℕ
    k = f.kind

    regroup : (l c q r : List ℕ) → ((l ++ c) ++ q) ++ r ≡ l ++ (c ++ (q ++ r))
    regroup l c q r = simp append_assoc

-- A FEATURE is read back, with its rows where they are those of its location
pub feature_back :
    (W : ℕ) (f : Feature) (rest : List ℕ) → 21 < W → feature_fine W f ≡ true → feature_kept W f ≡ true → feature_read f ≡ true → outside 21 rest ≡ true →
    feature (feature_lines W f ++ rest) ≡ got f rest
unfolding feature_fine feature_kept
feature_back W f rest w h g rows fine =
    let k : List ℕ = f.kind in
    let l : List ℕ = f.location in
    let kf : kind_fine W k ≡ true = and_left (kind_fine W k) _ h in
    let kt : kind_text k ≡ true = and_right (leb (length k) (W - 7)) (kind_text k) kf in
    let h₂ : (locates false l && all (qualifier_fine W) f.qualifiers) ≡ true = and_right (kind_fine W k) _ h in
    let lt : locates false l ≡ true = and_left (locates false l) _ h₂ in
    let g₂ : (no_slash l && all (qualifier_kept W) f.qualifiers) ≡ true = and_right (kind_kept k) _ g in
    let ns : no_slash l ≡ true = and_left (no_slash l) _ g₂ in
    let len : length k ≤ 15 = leb-true (length k) 15 (and_left (kind_kept k) _ g) in
    let q : all (qualifier_good W) f.qualifiers ≡ true =
    all_both (qualifier_fine W) (qualifier_kept W) f.qualifiers (and_right (locates false l) _ h₂) (and_right (no_slash l) _ g₂) in
    let ak : all visible k ≡ true = and_left (all visible k) (not (starts slash k)) (and_right (some k) _ kt) in
    let sk : starts (but 32) k ≡ true = all_first (but 32) k (and_left (some k) _ kt) (all_imp visible (but 32) visible_but k ak) in
    let sl : starts (but 32) l ≡ true = all_first (but 32) l (locates_some false l lt) (all_imp visible (but 32) visible_but l (locates_visible false l lt)) in
    let x₄ : List ℕ = each (qualifier_lines W) f.qualifiers ++ rest in
    let x₃ : List ℕ = comma_lines (length l) W 21 21 l ++ x₄ in
    let gap : List ℕ = spaces (suc (15 - length k)) in
    rw (lines_split W f rest len)
    (feature_steps (spaces 5 ++ (k ++ (gap ++ x₃))) (k ++ (gap ++ x₃)) (gap ++ x₃) x₃ (spaces 5) k gap f rest
    (spaces_back 4 (k ++ (gap ++ x₃)) (starts_more (but 32) k (gap ++ x₃) sk))
    (any_kind k (gap ++ x₃) kt refl)
    (spaces_back (15 - length k) x₃ (commas_starts W 21 (but 32) (length l) 21 l x₄ w sl))
    (rw length-replicate (omega (arith, length-replicate {A = ℕ} (15 - length k) 32)))
    (rw (rows_are false l f.rows rows lt) (location_back W k l rest f.qualifiers w lt ns q fine)))

-- ---- the feature table

module _ (W : ℕ) (w : 21 < W) where
  abbrev feature_good : Feature → Bool
  feature_good f = feature_fine W f && (feature_kept W f && feature_read f)

  one_feature : (f : Feature) (s : List ℕ) → feature_good f ≡ true → outside 21 s ≡ true → try_turn feature (feature_lines W f ++ s) ≡ got (more f) s
  one_feature f s g e =
      let g₁ : (feature_kept W f && feature_read f) ≡ true = and_right (feature_fine W f) _ g in
      rw (feature_back W f s w (and_left (feature_fine W f) _ g) (and_left (feature_kept W f) _ g₁) (and_right (feature_kept W f) _ g₁) e)

  -- five spaces and a kind
  feature_follow : (f : Feature) (s : List ℕ) → feature_good f ≡ true → outside 21 (feature_lines W f ++ s) ≡ true
  unfolding feature_fine feature_kept
  feature_follow f s g =
      let k : List ℕ = f.kind in
      let h : feature_fine W f ≡ true = and_left (feature_fine W f) _ g in
      let g₁ : (feature_kept W f && feature_read f) ≡ true = and_right (feature_fine W f) _ g in
      let len : length k ≤ 15 = leb-true (length k) 15 (and_left (kind_kept k) _ (and_left (feature_kept W f) _ g₁)) in
      let kt : kind_text k ≡ true = and_right (leb (length k) (W - 7)) (kind_text k) (and_left (kind_fine W k) _ h) in
      let ak : all visible k ≡ true = and_left (all visible k) (not (starts slash k)) (and_right (some k) _ kt) in
      let sk : starts (but 32) k ≡ true = all_first (but 32) k (and_left (some k) _ kt) (all_imp visible (but 32) visible_but k ak) in
      rw (lines_split W f s len) (starts_outside 15 (k ++ _) (starts_more (but 32) k _ sk))

  module _
      (rest : List ℕ) (fine : starts (but 32) rest ≡ true) (fs : List Feature) (h : all (feature_fine W) fs ≡ true) (k : all (feature_kept W) fs ≡ true)
      (rows : all feature_read fs ≡ true) where
    -- THE FEATURES are read back
    pub features_back : while_fits feature (each (feature_lines W) fs ++ rest) ≡ got fs rest
    features_back =
        each_back (try_turn feature) (try_shrinks feature feature_small) (feature_lines W) feature_good (outside 21) one_feature feature_follow rest
        (starts_outside 20 rest fine) (rw (no_feature rest fine)) fs
        (all_both (feature_fine W) (λ f. feature_kept W f && feature_read f) fs h (all_both (feature_kept W) feature_read fs k rows))

header_back : (x : List ℕ) → features_header (bytes "FEATURES             Location/Qualifiers\n" ++ x) ≡ got [] x
unfolding features_header tag until line_end
header_back x = refl

-- with their header line
pub table_back :
    (W : ℕ) (f : Feature) (fs : List Feature) (rest : List ℕ) → 21 < W → starts (but 32) rest ≡ true → all (feature_fine W) (f ∷ fs) ≡ true →
    all (feature_kept W) (f ∷ fs) ≡ true → all feature_read (f ∷ fs) ≡ true → features (features_lines W (f ∷ fs) ++ rest) ≡ got (f ∷ fs) rest
unfolding features features_lines
table_back W f fs rest w s h k rows =
    rw (append_assoc (bytes "FEATURES             Location/Qualifiers\n") (each (feature_lines W) (f ∷ fs)) rest, header_back (each (feature_lines W) (f ∷ fs) ++ rest))
    (features_back W w rest s (f ∷ fs) h k rows)
