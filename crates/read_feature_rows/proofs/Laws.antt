-- The loop over features: what was put and what is still to be put are the whole. The rows' room is told by its flat numbers.
use Prim.Native.Nat.{ℕ, ◌+◌, ◌-◌, ◌*◌, ◌≤◌, ◌<◌, ◌^◌}
use native.Mathlib.Omega.{arith}
use mathlib.Core.Path.{◌≡◌, refl, sym, ap, subst, ◌∙◌}
use mathlib.Core.List.{List, [], ◌∷◌, ◌++◌}
use lib.ListN.{length, drop, set}
use lib.Seq.{sets}
use Rattle.spec_format.specs.Bytes.{each}
use Rattle.spec_format.specs.Table as table
use Rattle.spec_format.specs.Readers.{Ans, got, no, cut}
use Rattle.spec_format.specs.Features.{feature}
use Rattle.spec_format.specs.Rooms.{pieces_row, feature_text, feature_rows, qualifier_rows, feature_locations}
use Rattle.spec_loops.specs.Loops.{try_members_no, try_members_cut}
use Rattle.spec_loops.proofs.Loops.{try_members_more}
use Rattle.spec_loops.proofs.Shrinks.{feature_small}
use Rattle.base_pen.specs.Pen.{Wrote}
use Rattle.base_pen.specs.Filling.{Filling, filling_start, filling_as, filling_step, filling_end, filling_bound}
use Rattle.base_rows.specs.declared.Feature.{Feature}
use Rattle.base_rows.specs.Rows.{flat}
use Rattle.base_rows.specs.Flat.{flat_set}
use Rattle.read_location_row.specs.Rows.{numbers_length}
use Rattle.read_feature_table.specs.Reads.{features_in}
use Rattle.read_feature_qualifier_rows.specs.Puts.{Fits, FeaturesPut}
use Rattle.read_feature_row.specs.declared.Reached.{Reached}
use Rattle.read_feature_row.specs.declared.Made.{Made}
use Rattle.read_feature_row.specs.Makes.{row_of, under_of, Ahead, FeatureMade, RowThen, LocationsThen, FeaturePut}

-- ---- the rows of the first feature, and those of the others

rows_more : (at q l : ℕ) (f : table.Feature) (fs : List table.Feature)
    → feature_rows at q l (f ∷ fs) ≡ row_of at q l f ++ feature_rows (at + length (feature_text f)) (q + length f.qualifiers) (l + length f.rows) fs
unfolding feature_rows
rows_more at q l f fs = refl

under_more : (at : ℕ) (f : table.Feature) (fs : List table.Feature) → qualifier_rows at (f ∷ fs) ≡ under_of at f ++ qualifier_rows (at + length (feature_text f)) fs
unfolding qualifier_rows
under_more at f fs = refl

rows_none : (at q l : ℕ) → feature_rows at q l [] ≡ []
unfolding feature_rows
rows_none at q l = refl

under_none : (at : ℕ) → qualifier_rows at [] ≡ []
unfolding qualifier_rows
under_none at = refl

row_long : (at q l : ℕ) (f : table.Feature) → length (row_of at q l f) ≡ 8
unfolding pieces_row
row_long at q l f = refl

no_more : (fs : List table.Feature) → length fs ≡ 0 → fs ≡ []
no_more [] e = refl
no_more (f ∷ fs) e = absurd (omega arith)

-- ---- four rooms that are being filled

-- the features fs are still to be put, of all
pub record FourFilling (place : ℕ) (all : List table.Feature) (t₀ : List ℕ) (l₀ : List Feature) (q₀ n₀ t : List ℕ) (l : List Feature) (q n : List ℕ) (p : Reached) (fs : List table.Feature) : Type 0 where
  pub texts : Filling t₀ place (each feature_text all) t p.text (each feature_text fs)
  pub rows : Filling (flat l₀) 0 (feature_rows place 0 0 all) (flat l) (8 * p.row) (feature_rows p.text p.count p.location fs)
  pub qualifiers : Filling q₀ 0 (qualifier_rows place all) q p.qualifier (qualifier_rows p.text fs)
  pub locations : Filling n₀ 0 (each feature_locations all) n (7 * p.location) (each feature_locations fs)

module _ {place : ℕ} {all : List table.Feature} {t₀ : List ℕ} {l₀ : List Feature} {q₀ n₀ : List ℕ} (a : place + length (each feature_text all) < 2 ^ 64)
    (b : length (qualifier_rows place all) < 2 ^ 64)
    {t : List ℕ} {l : List Feature} {q n' : List ℕ} {p : Reached} (x : table.Feature) (fs : List table.Feature) {z s t' q' n'' : List ℕ} {m : Made} where
  four_step : FourFilling place all t₀ l₀ q₀ n₀ t l q n' p (x ∷ fs) → FeatureMade s p x z t t' q q' m → n'' ≡ sets n' (7 * p.location) (feature_locations x)
      → m.reached.row ≡ p.row + 1 → FourFilling place all t₀ l₀ q₀ n₀ t' (set l p.row m.row) q' n'' m.reached fs
  four_step h w u n =
      let g = filling_as (rows_more p.text p.count p.location x fs) h.rows in
      let k = filling_as (under_more p.text x fs) h.qualifiers in
      let v = w.fit (filling_bound (feature_text x) (each feature_text fs) h.texts a) (filling_bound (under_of p.text x) _ k (omega arith)) in
      let d : p.text + length (feature_text x) ≡ m.reached.text = sym v.texts.to in
      let c : p.count + length x.qualifiers ≡ m.reached.count = sym w.counted in
      let e : p.location + length x.rows ≡ m.reached.location = sym w.located in
      let r : Wrote (flat l) (8 * p.row) (row_of p.text p.count p.location x) (flat (set l p.row m.row)) (8 * m.reached.row) =
      record { is = rw (← v.row) (flat_set l p.row m.row); to = omega (arith, n, row_long p.text p.count p.location x) } in
      let y : Wrote n' (7 * p.location) (feature_locations x) n'' (7 * m.reached.location) = record { is = u; to = omega (arith, w.located, numbers_length x.rows) } in
      record {
        texts = filling_step h.texts v.texts;
        rows = rw (← d, ← c, ← e) (filling_step g r);
        qualifiers = rw (← d) (filling_step k v.qualifiers);
        locations = filling_step h.locations y;
      }

-- ---- the loop

abbrev pub reached_from : ℕ → ℕ → Reached
reached_from at place = record { at = at; text = place; row = 0; qualifier = 0; count = 0; location = 0 }

-- the features up to p's row are put, of n from `at` on
pub record Storing (s : List ℕ) (at n place : ℕ) (t₀ : List ℕ) (l₀ : List Feature) (q₀ n₀ t : List ℕ) (l : List Feature) (q m : List ℕ) (p : Reached) : Type 0 where
  pub within : p.at ≤ length s
  pub few : p.count ≤ p.at
  pub rowed : p.location ≤ p.at
  pub texts_long : length t ≡ length t₀
  pub qualifiers_long : length q ≡ length q₀
  pub locations_long : length m ≡ length n₀
  pub left : n ≡ p.row + length (features_in (drop p.at s))
  pub four : FourFilling place (features_in (drop at s)) t₀ l₀ q₀ n₀ t l q m p (features_in (drop p.at s))

module _ (s : List ℕ) (at n place : ℕ) (t₀ : List ℕ) (l₀ : List Feature) (q₀ n₀ : List ℕ) (h : Fits s at n place (features_in (drop at s))) where
  pub storing_none : Storing s at n place t₀ l₀ q₀ n₀ t₀ l₀ q₀ n₀ (reached_from at place)
  storing_none =
      let e = h.counted in
      record {
        within = h.within;
        few = omega arith;
        rowed = omega arith;
        texts_long = refl;
        qualifiers_long = refl;
        locations_long = refl;
        left = omega arith;
        four = record { texts = filling_start; rows = filling_start; qualifiers = filling_start; locations = filling_start };
      }

  module _ (t : List ℕ) (l : List Feature) (q n' : List ℕ) (p : Reached) (g : Storing s at n place t₀ l₀ q₀ n₀ t l q n' p) where
    pub storing_ahead : p.row < n → n < 2 ^ 64 → Ahead s p
    storing_ahead less m = record { few = g.few; rowed = g.rowed; within = g.within; short = h.short (omega arith); next = omega arith }

    pub storing_on : (t' q' n'' : List ℕ) (m : Made) → p.row < n → FeaturePut s p (feature (drop p.at s)) t t' q q' n' n'' m →
        length t' ≡ length t → length q' ≡ length q → length n'' ≡ length n' → Storing s at n place t₀ l₀ q₀ n₀ t' (set l p.row m.row) q' n'' m.reached
    storing_on t' q' n'' m less w a b c =
        let d = turn (feature (drop p.at s)) refl w.made.there w.locations in
        record {
          within = w.made.within;
          few = w.made.few;
          rowed = w.made.rowed;
          texts_long = a ∙ g.texts_long;
          qualifiers_long = b ∙ g.qualifiers_long;
          locations_long = c ∙ g.locations_long;
          left = d.0;
          four = d.1;
        }
      where
        none : features_in (drop p.at s) ≡ [] → ⊥
        none e = let u : length (features_in (drop p.at s)) ≡ 0 = ap length e in let v = g.left in omega arith

        turn : (o : Ans table.Feature) → feature (drop p.at s) ≡ o → RowThen s p o t t' q q' m → LocationsThen p o n' n''
            → (n ≡ m.reached.row + length (features_in (drop m.reached.at s)))
            × FourFilling place (features_in (drop at s)) t₀ l₀ q₀ n₀ t' (set l p.row m.row) q' n'' m.reached (features_in (drop m.reached.at s))
        turn (got x z) e v y =
            let fs : List table.Feature = features_in (drop m.reached.at s) in
            let k : features_in (drop p.at s) ≡ x ∷ fs =
            try_members_more feature feature_small (drop p.at s) x z e ∙ ap (λ (r : List ℕ). x ∷ features_in r) v.ended in
            let u : length (features_in (drop p.at s)) ≡ length (x ∷ fs) = ap length k in
            let j = g.left in let i = w.made.next in (
              omega arith,
              four_step h.texts h.qualifiers x fs
                  (subst (λ (r : List table.Feature). FourFilling place (features_in (drop at s)) t₀ l₀ q₀ n₀ t l q n' p r) k g.four) v y i,
            )
        turn no e v y = absurd (none (try_members_no feature (drop p.at s) e))
        turn cut e v y = absurd (none (try_members_cut feature (drop p.at s) e))

    pub storing_all : n ≤ p.row → FeaturesPut place (features_in (drop at s)) t₀ t (flat l₀) (flat l) q₀ q n₀ n' p.text
    storing_all over =
        let j = g.left in
        let m : features_in (drop p.at s) ≡ [] = no_more (features_in (drop p.at s)) (omega arith) in
        let d : FourFilling place (features_in (drop at s)) t₀ l₀ q₀ n₀ t l q n' p [] =
        subst (λ (r : List table.Feature). FourFilling place (features_in (drop at s)) t₀ l₀ q₀ n₀ t l q n' p r) m g.four in
        record {
          texts = filling_end d.texts;
          features = (filling_end (filling_as (rows_none p.text p.count p.location) d.rows)).is;
          qualifiers = (filling_end (filling_as (under_none p.text) d.qualifiers)).is;
          locations = (filling_end d.locations).is;
        }

-- a turn brings the end nearer
pub nearer : (n k j : ℕ) → j ≡ k + 1 → k < n → n - j < n - k
nearer n k j e h = omega arith
