-- The feature table: what may follow a feature with the public columns, and how the features are read after one another. Each is read in proofs/FeatureRead.antt.
use Rattle.std.specs.Prelude.{ℕ, suc, ◌-◌, true, false, ◌≡◌, List, [], ◌∷◌, ◌++◌, length}
use Rattle.std.proofs.Common.{ap, ◌∙◌, append_assoc}
use Rattle.spec_format.specs.Bytes.{bytes, spaces, some, starts, all, visible, but}
use Rattle.spec_format.specs.Readers.{got, tag, until, line_end, while_fits}
use Rattle.spec_format.specs.Features.{features_header, kind_text, feature}
use Rattle.spec_format.specs.Location.{rows_in}
use Rattle.spec_format.specs.Record.{features}
use Rattle.spec_format.specs.Table.{Qualifier, Feature}
use Rattle.spec_public.specs.Public.{features_columns, feature_columns}
use Rattle.spec_loops.specs.Loops.{tries_no}
use Rattle.spec_loops.proofs.Loops.{tries_more}
use Rattle.spec_loops.proofs.Shrinks.{feature_small}
use Rattle.spec_texts_back.specs.Tests.{and_left, and_right, all_imp, all_first, starts_more}
use Rattle.spec_texts_back.specs.Pieces.{visible_but}
use Rattle.spec_record_back.specs.QualifierBack.{outside, starts_outside}
use Rattle.spec_record_back.specs.FeatureBack.{spaces_last, no_feature}
use Rattle.spec_columns_back.specs.Cells.{cell, last_cell}
use Rattle.spec_columns_back.specs.Further.{ended}

-- ---- a feature

regroup : (a k g s l : List ℕ) → a ++ ((k ++ g) ++ (s ++ l)) ≡ a ++ (k ++ (g ++ (s ++ l)))
regroup a k g s l = simp append_assoc

pub line_is :
    (key l line : List ℕ) → feature_columns key l line ≡ true → line ≡ spaces 5 ++ (key ++ (spaces (suc (15 - length key)) ++ l))
line_is key l line h =
    let e : line ≡ spaces 5 ++ ((key ++ spaces (15 - length key)) ++ (spaces 1 ++ l)) =
    cell line 0 5 (spaces 5) _ _ h (λ h. cell line 5 15 (key ++ spaces (15 - length key)) _ _ h (λ h. cell line 20 1 (spaces 1) l _ h (λ h. last_cell line 21 l h))) in
    e ∙ regroup (spaces 5) key (spaces (15 - length key)) (spaces 1) l ∙ ap (λ (x : List ℕ). spaces 5 ++ (key ++ x)) (spaces_last (15 - length key) l)

pub seen_starts : (l : List ℕ) → some l ≡ true → all visible l ≡ true → starts (but 32) l ≡ true
seen_starts l s h = all_first (but 32) l s (all_imp visible (but 32) visible_but l h)

-- with the rows of its location
abbrev pub feature_of : List ℕ → List ℕ → List Qualifier → Feature
feature_of key l qs = record { kind = key; location = l; qualifiers = qs; rows = rows_in false l }

-- ---- the feature table

-- a feature's line may follow a location or a value, and no qualifier stands there
pub feature_follows : (key l line x : List ℕ) → feature_columns key l line ≡ true → kind_text key ≡ true → outside 21 (line ++ x) ≡ true
feature_follows key l line x h k =
    let kv : all visible key ≡ true = and_left (all visible key) _ (and_right (some key) _ k) in
    let gap : List ℕ = spaces (suc (15 - length key)) in
    rw (line_is key l line h, line_group (spaces 5) key gap l x)
    (starts_outside 15 (key ++ (gap ++ (l ++ x))) (starts_more (but 32) key (gap ++ (l ++ x)) (seen_starts key (and_left (some key) _ k) kv)))
  where
    line_group : (a k g l x : List ℕ) → (a ++ (k ++ (g ++ l))) ++ x ≡ a ++ (k ++ (g ++ (l ++ x)))
    line_group a k g l x = simp append_assoc

-- a feature that is read stands before those that are read after it
pub features_more :
    (s t : List ℕ) (f : Feature) (fs : List Feature) (rest : List ℕ) → feature s ≡ got f t → while_fits feature t ≡ got fs rest →
    while_fits feature s ≡ got (f ∷ fs) rest
features_more s t f fs rest e g = tries_more feature feature_small s f t e ∙ rw g

-- and there is none where a line begins with another byte than a blank
pub features_end : (rest : List ℕ) → starts (but 32) rest ≡ true → while_fits feature rest ≡ got [] rest
features_end rest h = tries_no feature rest (no_feature rest h)

-- THE FIRST LINE OF THE FEATURE TABLE, and the features that are read after it
pub table_read :
    (line s : List ℕ) (fs : List Feature) (rest : List ℕ) → features_columns line ≡ true → while_fits feature s ≡ got fs rest →
    features (ended line ++ s) ≡ got fs rest
unfolding features features_header tag until line_end
table_read line s fs rest h f =
    let e : line ≡ bytes "FEATURES             Location/Qualifiers" =
    cell line 0 21 (bytes "FEATURES             ") (bytes "Location/Qualifiers") _ h (λ h. last_cell line 21 (bytes "Location/Qualifiers") h) in
    rw e f
