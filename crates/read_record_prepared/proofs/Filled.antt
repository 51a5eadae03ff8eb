-- The features fill the gap that was left for them: then each room has the table's layout laid over it, and the answer is the plan's.
use Prim.Native.Nat.{ℕ, suc, ◌+◌, ◌-◌, ◌*◌, ◌≤◌, ◌<◌}
use native.Mathlib.Nat.{add-zero, add-suc, suc-add}
use native.Mathlib.Omega.{arith}
use mathlib.Core.Bool.{Bool, true, false, not}
use mathlib.Core.Path.{◌≡◌, refl, sym, ap, ◌∙◌}
use mathlib.Core.List.{List, [], ◌∷◌, ◌++◌, append_assoc}
use lib.ListN.{length, drop, set, length-append, length-drop}
use lib.Seq.{sets, sets-eq, set_comm}
use borrow.Author.Tests.{not-true, not-false}
use Rattle.spec_format.specs.Bytes.{each}
use Rattle.spec_format.specs.Table.{Table}
use Rattle.spec_format.specs.Rooms.{Rooms, perhaps, piece_text, contig_text, contig_rows, feature_text, feature_locations, location_numbers, location_count, features_at, contig_at, layout, sizes, fits, answer_of, over, over_rooms, rooms_of, rooms_in}
use Rattle.spec_format.specs.declared.Sizes.{Sizes}
use Rattle.spec_format.specs.declared.ReadAnswer.TheVariants as answer
use Rattle.spec_rooms.specs.LayoutBack.{locations_long}
use Rattle.spec_rooms.specs.LayoutLengths.{Lengths, layout_lengths, SameLengths}
use Rattle.spec_rooms.proofs.LayoutKept.{layout_keeps}
use Rattle.spec_contracts.specs.Equal.{rooms_equal}
use Rattle.base_pen.specs.Pen.{sets_append}
use Rattle.read_feature_table.specs.Reads.{features_in}
use Rattle.read_feature_qualifier_rows.specs.Puts.{Fits, FeaturesPut}
use Rattle.read_record_plan.specs.declared.Plan.{Plan}
use Rattle.read_record_plan.specs.Plans.{plan_table, Ready}
use Rattle.read_record_plan.specs.Parts.{TableParts, table_parts, SmallParts, small_parts}
use Rattle.read_record_frame.specs.Fills.{header_text, header_long, AroundFilled}
use Rattle.read_record_sizes.specs.Sizing.{sizes_in, head_plan, fits_in}
use Rattle.read_record_sizes.specs.Tables.{fits_in_lem, sizes_is, head_is}
use Rattle.read_record_prepared.specs.Prepares.{Answering}

-- ---- the store's texts, where a gap is filled last

set_before : (y l : List ℕ) (i j a : ℕ) → i < j → set (sets l j y) i a ≡ sets (set l i a) j y
set_before [] l i j a h = refl
set_before (b ∷ y) l i j a h =
    set_before y (set l j b) i (suc j) a (omega arith) ∙ ap (λ (m : List ℕ). sets m (suc j) y) (set_comm l j i b a (λ e. omega arith))

-- x before a y that is there already
sets_before : (x y l : List ℕ) (i : ℕ) → sets (sets l (i + length x) y) i x ≡ sets l i (x ++ y)
sets_before [] y l i = rw (add-zero i)
sets_before (a ∷ x) y l i =
    ap (λ (m : List ℕ). sets m (suc i) x) (set_before y l i (i + suc (length x)) a (omega arith)) ∙
    rw (add-suc i (length x), ← (suc-add i (length x))) (sets_before x y (set l i a) (suc i))

gap_filled : (t : Table) (t₀ t₁ t₂ : List ℕ) → t₁ ≡ sets (sets t₀ 0 (header_text t)) (contig_at t) (piece_text (perhaps (contig_text t.contig))) →
    t₂ ≡ sets t₁ (features_at t) (each feature_text t.features) → t₂ ≡ sets t₀ 0 (layout t).texts
unfolding layout
gap_filled t t₀ t₁ t₂ e f =
    let F : List ℕ = each feature_text t.features in
    let C : List ℕ = piece_text (perhaps (contig_text t.contig)) in
    f ∙ ap (λ (l : List ℕ). sets l (features_at t) F) e ∙ sets_before F C (sets t₀ 0 (header_text t)) (features_at t) ∙
    rw (← header_long t, sets_append (header_text t) (F ++ C) t₀ 0) (ap (sets t₀ 0) (sym (append_assoc (header_text t) F C)))

-- the features' location rows before CONTIG's, which are there already
rows_filled : (t : Table) (n₀ n₁ n₂ : List ℕ) → n₁ ≡ sets n₀ (7 * location_count t.features) (location_numbers (contig_rows t.contig)) →
    n₂ ≡ sets n₁ 0 (each feature_locations t.features) → n₂ ≡ sets n₀ 0 (layout t).locations
unfolding layout
rows_filled t n₀ n₁ n₂ e f =
    let F : List ℕ = each feature_locations t.features in
    let C : List ℕ = location_numbers (contig_rows t.contig) in
    let l : 7 * location_count t.features ≡ 0 + length F = omega (arith, locations_long t.features) in
    f ∙ ap (λ (m : List ℕ). sets m 0 F) (e ∙ ap (λ (i : ℕ). sets n₀ i C) l) ∙ sets_before F C n₀ 0

-- ---- what is stored from a room's start on is laid over it, where it fits

sets_over : (new old : List ℕ) → length (over new old) ≡ length old → sets old 0 new ≡ over new old
sets_over new old e =
    let l : 0 + length new ≤ length old = omega (arith, e, length-append new (drop (length new) old), length-drop (length new) old) in
    let z : 0 + length new ≡ length new = omega arith in
    sets-eq new old 0 l ∙ ap (λ (k : ℕ). new ++ drop k old) z

module _ (s : List ℕ) (p : Plan) (h : Ready s p) where
  parts : TableParts s p
  parts = table_parts s p

  small : SmallParts (length s) (plan_table s p)
  small = small_parts s p h.stands

  lengths : Lengths (plan_table s p)
  lengths = layout_lengths (plan_table s p)

  pub features_fit : (place : ℕ) → place ≡ features_at (plan_table s p) →
      Fits s p.rest.features_at p.rest.features.count place (features_in (drop p.rest.features_at s))
  unfolding layout sizes
  features_fit place e =
      record {
        within = h.stands.rest.middle.tabled;
        short = λ _. h.most;
        counted = h.stands.rest.middle.read.count;
        texts =
            rw (← parts.features, e) (omega (arith, small.head, small.reference_texts, small.comment_texts, small.feature_texts, h.most));
        qualifiers = rw (← parts.features, e) (omega (arith, lengths.qualifiers, small.qualifiers, h.most));
      }

  module _ (t₀ t₁ t₂ r₀ r₁ c₀ c₁ f₀ f₁ q₀ q₁ n₀ n₁ n₂ l₀ l₁ : List ℕ) (a z : ℕ) (x : AroundFilled (plan_table s p) t₀ t₁ r₀ r₁ c₀ c₁ n₀ n₁ l₀ l₁ a)
      (y : FeaturesPut a (features_in (drop p.rest.features_at s)) t₁ t₂ f₀ f₁ q₀ q₁ n₁ n₂ z) where
    abbrev before : Rooms
    before = rooms_in t₀ r₀ c₀ f₀ q₀ n₀ l₀

    abbrev behind : Rooms
    behind = rooms_in t₂ r₁ c₁ f₁ q₁ n₂ l₁

    pub laid_over : fits (sizes (plan_table s p)) before ≡ true → behind ≡ over_rooms (layout (plan_table s p)) before
    unfolding layout
    laid_over f =
        let t = plan_table s p in
        let k : SameLengths before (over_rooms (layout t) before) = layout_keeps t before f in
        let d : FeaturesPut (features_at t) t.features t₁ t₂ f₀ f₁ q₀ q₁ n₁ n₂ z = rw (parts.features, ← x.gap) y in
        rooms_equal behind (over_rooms (layout t) before)
        (gap_filled t t₀ t₁ t₂ x.texts d.texts.is ∙ sets_over (layout t).texts t₀ k.texts)
        (x.references ∙ sets_over (layout t).references r₀ k.references)
        (x.comments ∙ sets_over (layout t).comments c₀ k.comments)
        (d.features ∙ sets_over (layout t).features f₀ k.features)
        (d.qualifiers ∙ sets_over (layout t).qualifiers q₀ k.qualifiers)
        (rows_filled t n₀ n₁ n₂ x.locations d.locations ∙ sets_over (layout t).locations n₀ k.locations)
        (x.letters ∙ sets_over (layout t).letters l₀ k.letters)

  -- ---- the answer

  module _ (old : Rooms) (n : Sizes) (b : Bool) (k : n ≡ sizes_in p)
      (m : b ≡ fits_in n (length old.texts) (length old.references) (length old.comments) (length old.features) (length old.qualifiers) (length old.locations) (length old.letters)) where
    fits_is : fits (sizes (plan_table s p)) old ≡ b
    fits_is = ap (λ (x : Sizes). fits x old) (sym (k ∙ sizes_is s p h)) ∙ fits_in_lem n old ∙ sym m

    pub answer_room : not b ≡ true → Answering s p old old (answer.Room n)
    unfolding answer_of rooms_of
    answer_room w = record { is = rw (fits_is, not-true b w, ← sizes_is s p h, ← k); rooms = rw (fits_is, not-true b w) }

    pub answer_done : (new : Rooms) → not b ≡ false → (fits (sizes (plan_table s p)) old ≡ true → new ≡ over_rooms (layout (plan_table s p)) old) →
        Answering s p old new (answer.Done (head_plan p) p.rest.place)
    unfolding answer_of rooms_of
    answer_done new w d =
        let f : fits (sizes (plan_table s p)) old ≡ true = fits_is ∙ not-false b w in
        let z : length s - length (drop p.rest.place s) ≡ p.rest.place = rw (length-drop p.rest.place s) (omega (arith, h.stands.rest.within)) in
        record { is = rw (f, z, ← head_is s p h); rooms = rw f (d f) }
