-- The laws of the finders: what stands where each says, by the answers of the scanners.
use Prim.Native.Nat.{ℕ, ◌+◌, ◌≤◌, ◌<◌}
use native.Mathlib.Nat.{le_refl}
use native.Mathlib.Omega.{arith}
use mathlib.Core.Bool.{Bool, true, false}
use mathlib.Core.Path.{◌≡◌, refl, sym, ap, subst, ◌∙◌}
use mathlib.Core.List.{List, []}
use lib.ListN.{length, drop, length-drop, drop_of_length-le}
use Rattle.spec_format.specs.Bytes.{May, is}
use Rattle.spec_format.specs.Readers.{Ans, got, no, cut, optional}
use Rattle.spec_format.specs.Features.{features_header}
use Rattle.spec_format.specs.Deep.{deep_feature}
use Rattle.spec_format.specs.Origin.{Letters, at_slash, at_end, bad_byte, origin_tag}
use Rattle.spec_format.specs.Record.{features, base_count, left_by, middle, deep_in}
use Rattle.spec_lines.specs.Stands.{Stands}
use Rattle.spec_lines.specs.Troubles.{letters_end, deep_place}
use Rattle.spec_loops.specs.Shrinks.{leaves_length}
use Rattle.spec_loops.proofs.Shrinks.{middle_leaves}
use Rattle.scan_bytes.specs.Views.{Past, Emptied}
use Rattle.scan_bytes.specs.Sequence.{empty_places}
use Rattle.scan_bytes.specs.declared.Step.{Step}
use Rattle.scan_bytes.specs.declared.Step.TheVariants as step
use Rattle.read_letters.specs.declared.Counted.{Counted}
use Rattle.read_letters.specs.declared.Counted.TheVariants as counted
use Rattle.read_letters.specs.Runs.{letters_by, slash, end, bad, tally, PastCounted, Counts}
use Rattle.read_origin.specs.Ends.{passed, Passed}
use Rattle.read_field_optional.specs.declared.MayEntry.{MayEntry}
use Rattle.read_field_optional.specs.declared.MayEntryAt.{MayEntryAt}
use Rattle.read_field_optional.specs.declared.MayEntryAt.TheVariants as may_at
use Rattle.read_field_optional.specs.Fields.{MayKnown, MayEnter}
use Rattle.read_field_optional.specs.Knowing.{known_may, cut_may}
use Rattle.read_feature_table.specs.declared.Features.{Features}
use Rattle.read_feature_table.specs.Reads.{features_in, FeaturesRead}
use Rattle.read_record_middle.specs.declared.MiddleAt.{MiddleAt}
use Rattle.read_record_middle.specs.declared.MiddleAt.TheVariants as mid
use Rattle.read_record_middle.specs.Middles.{middle_in, MiddleKnown, MiddleAs, Middles}
use Rattle.read_trouble.specs.Found.{after_tag_by, origin_ends_by, sections_end_by, Shallow, deep_at}
use Rattle.spec_format.specs.Impossible.{impossible}

-- what stands from a place on stands from an earlier one on
pub stands_from : (s : List ℕ) (at n : ℕ) (t : List ℕ) (r : ℕ) → at ≤ n → Stands s n t r → Stands s at t r
stands_from s at n t r l h = record { is = h.is; from = omega (arith, h.from); within = h.within }

-- ---- the letters

end_slash : (n : ℕ) (r : List ℕ) (x : Letters) → slash n r ≡ tally x → r ≡ letters_end x
end_slash n r (at_slash l z) e = cc
end_slash n r (at_end l) e = impossible cc
end_slash n r (bad_byte z) e = impossible cc

end_all : (n : ℕ) (x : Letters) → end n ≡ tally x → [] ≡ letters_end x
end_all n (at_slash l z) e = impossible cc
end_all n (at_end l) e = refl
end_all n (bad_byte z) e = impossible cc

end_bad : (r : List ℕ) (x : Letters) → bad r ≡ tally x → r ≡ letters_end x
end_bad r (at_slash l z) e = impossible cc
end_bad r (at_end l) e = impossible cc
end_bad r (bad_byte z) e = cc

module _ (s : List ℕ) (at : ℕ) (strict : Bool) (r : Counted) (h : Counts s at (tally (letters_by strict (drop at s))) r) where
  abbrev Lettered : ℕ → Type 0
  Lettered n = Stands s at (letters_end (letters_by strict (drop at s))) n

  places : (x : Counted) → r ≡ x → PastCounted s at x
  places x e = subst (λ (x : Counted). PastCounted s at x) e h.place

  pub ends_slash : (n next : ℕ) → r ≡ counted.AtSlash n next → Lettered next
  ends_slash n next e =
      let p : (n + at ≤ next) × (next ≤ length s) = places (counted.AtSlash n next) e in
      record { is = end_slash n (drop next s) (letters_by strict (drop at s)) (rw e at h.is); from = omega (arith, p.0); within = p.1 }

  pub ends_all : (n : ℕ) → r ≡ counted.AtEnd n → at ≤ length s → Lettered (length s)
  ends_all n e l =
      record {
        is = drop_of_length-le s (le_refl (length s)) ∙ end_all n (letters_by strict (drop at s)) (rw e at h.is);
        from = l;
        within = le_refl (length s);
      }

  pub ends_bad : (next : ℕ) → r ≡ counted.Bad next → Lettered next
  ends_bad next e =
      let p : (at ≤ next) × (next < length s) = places (counted.Bad next) e in
      record { is = end_bad (drop next s) (letters_by strict (drop at s)) (rw e at h.is); from = p.0; within = omega (arith, p.1) }

pub ruleset lettering = (ends_slash, ends_all, ends_bad)

-- ---- ORIGIN

module _ (strict : Bool) (s : List ℕ) where
  tag_got : (o : Ans (List ℕ)) (r : List ℕ) → got tt r ≡ passed o → after_tag_by strict s o ≡ letters_end (letters_by strict r)
  tag_got (got t z) r e = let f : z ≡ r = cc in rw f
  tag_got no r e = impossible cc
  tag_got cut r e = impossible cc

  tag_no : (o : Ans (List ℕ)) → no ≡ passed o → after_tag_by strict s o ≡ s
  tag_no (got t z) e = impossible cc
  tag_no no e = refl
  tag_no cut e = refl

  tag_cut : (o : Ans (List ℕ)) → cut ≡ passed o → after_tag_by strict s o ≡ s
  tag_cut (got t z) e = impossible cc
  tag_cut no e = refl
  tag_cut cut e = refl

module _ (s : List ℕ) (at : ℕ) (strict : Bool) (r : Step) (h : Passed s at (origin_tag (drop at s)) r) where
  origin_place : (n : ℕ) → r ≡ step.Got n → (at ≤ n) × (n ≤ length s)
  origin_place n e = subst (λ (x : Step). Past s at x) e h.place

  pub origin_within : (n : ℕ) → r ≡ step.Got n → n ≤ length s
  origin_within n e = (origin_place n e).1

  pub origin_got : (n p : ℕ) → r ≡ step.Got n → Stands s n (letters_end (letters_by strict (drop n s))) p → Stands s at (origin_ends_by strict (drop at s)) p
  origin_got n p e w =
      let k : origin_ends_by strict (drop at s) ≡ letters_end (letters_by strict (drop n s)) = tag_got strict (drop at s) (origin_tag (drop at s)) (drop n s) (rw e at h.is) in
      rw k (stands_from s at n (letters_end (letters_by strict (drop n s))) p (origin_place n e).0 w)

  pub origin_no : r ≡ step.No → at ≤ length s → Stands s at (origin_ends_by strict (drop at s)) at
  origin_no e l = record { is = sym (tag_no strict (drop at s) (origin_tag (drop at s)) (rw e at h.is)); from = le_refl at; within = l }

  pub origin_cut : r ≡ step.Cut → at ≤ length s → Stands s at (origin_ends_by strict (drop at s)) at
  origin_cut e l = record { is = sym (tag_cut strict (drop at s) (origin_tag (drop at s)) (rw e at h.is)); from = le_refl at; within = l }

pub ruleset origins = (origin_within, origin_got, origin_no, origin_cut)

-- ---- features, BASE COUNT and CONTIG

module _ (s : List ℕ) (at : ℕ) (r : MiddleAt) (h : Middles s (deep_in (drop at s)) (middle (drop at s)) r) where
  as_told : (x : MiddleAt) → r ≡ x → MiddleAs s (deep_in (drop at s)) (middle (drop at s)) x
  as_told x e = subst (λ (x : MiddleAt). MiddleAs s (deep_in (drop at s)) (middle (drop at s)) x) e h.is

  abbrev Ended : ℕ → Type 0
  Ended n = Shallow (deep_in (drop at s)) s at (left_by (drop at s) (middle (drop at s))) n

  pub middle_got : (first : ℕ) (counts : Features) (entry : MayEntry) (rows next : ℕ) → r ≡ mid.Got first counts entry rows next → at ≤ length s → Ended next
  middle_got first counts entry rows next e l =
      let k : MiddleKnown s (deep_in (drop at s)) (middle (drop at s)) first counts entry rows next = as_told (mid.Got first counts entry rows next) e in
      let m = leaves_length (middle_leaves (drop at s)) (middle_in s first entry) (drop next s) k.is in
      record { is = λ _. rw k.is refl; from = omega (arith, m, k.within, length-drop next s, length-drop at s); within = k.within }

  pub middle_cut : r ≡ mid.Cut → at ≤ length s → Ended at
  middle_cut e l = let k = as_told mid.Cut e in record { is = λ _. rw k.1 refl; from = le_refl at; within = l }

  pub middle_deep : r ≡ mid.Deep → at ≤ length s → Ended at
  middle_deep e l = let k : deep_in (drop at s) ≡ true = as_told mid.Deep e in record { is = λ d. impossible cc; from = le_refl at; within = l }

pub ruleset middling = (middle_got, middle_cut, middle_deep)

module _ (s : List ℕ) (at n : ℕ) (d : Bool) (h : Shallow d s at (left_by (drop at s) (middle (drop at s))) n) where
  pub sections_within : n ≤ length s
  sections_within = h.within

  pub sections_are : (strict : Bool) (r : ℕ) → Stands s n (origin_ends_by strict (drop n s)) r → Shallow d s at (sections_end_by strict (drop at s)) r
  unfolding sections_end_by
  sections_are strict r w = record { is = λ e. w.is ∙ ap (origin_ends_by strict) (h.is e); from = omega (arith, h.from, w.from); within = w.within }

pub ruleset sectioning = (sections_within, sections_are)

-- ---- the location that is too deep

left_got : {A : Type 0} (s : List ℕ) (o : Ans A) (a : May A) (r : List ℕ) → optional s o ≡ got a r → left_by s o ≡ r
left_got s (got b z) a r e = cc
left_got s no a r e = cc
left_got s cut a r e = impossible cc

left_cut : {A : Type 0} (s : List ℕ) (o : Ans A) → optional s o ≡ cut → left_by s o ≡ s
left_cut s (got b z) e = impossible cc
left_cut s no e = impossible cc
left_cut s cut e = refl

module _ (s : List ℕ) (at : ℕ) (r : MayEntryAt) (h : MayEnter s at false (optional (drop at s) (base_count (drop at s))) r) where
  pub count_got : (entry : MayEntry) (n : ℕ) → r ≡ may_at.Got entry n → Stands s at (left_by (drop at s) (base_count (drop at s))) n
  count_got entry n e =
      let k : MayKnown s at false (optional (drop at s) (base_count (drop at s))) entry n = known_may h e in
      record { is = sym (left_got (drop at s) (base_count (drop at s)) k.the (drop n s) k.is); from = k.from; within = k.within }

  pub count_cut : r ≡ may_at.Cut → at ≤ length s → Stands s at (left_by (drop at s) (base_count (drop at s))) at
  count_cut e l = record { is = sym (left_cut (drop at s) (base_count (drop at s)) (cut_may h e)); from = le_refl at; within = l }

pub ruleset counting = (count_got, count_cut)

module _ (s : List ℕ) (at : ℕ) (b : Bool) (g : b ≡ deep_feature (drop at s)) where
  pub feature_deep : b ≡ true → at ≤ length s → Stands s at (deep_at (drop at s)) at
  feature_deep e l = record { is = rw (← g, e) refl; from = le_refl at; within = l }

  pub contig_deep : (r : ℕ) → b ≡ false → Stands s at (left_by (drop at s) (base_count (drop at s))) r → Stands s at (deep_at (drop at s)) r
  contig_deep r e w = rw (← g, e) w

pub ruleset deepening = (feature_deep, contig_deep)

module _ (s : List ℕ) (at : ℕ) (r : Step) (h : Emptied s at (features_header (drop at s)) r) where
  pub table_within : (n : ℕ) → r ≡ step.Got n → n ≤ length s
  table_within n e = (empty_places h e).1

  pub table_got : (n : ℕ) (counts : Features) (p : ℕ) → r ≡ step.Got n → FeaturesRead s n (features_in (drop n s)) counts → Stands s counts.next (deep_at (drop counts.next s)) p →
      Stands s at (deep_place (drop at s)) p
  unfolding features deep_place
  table_got n counts p e w m =
      let k : features (drop at s) ≡ got (features_in (drop n s)) (drop counts.next s) = rw (← h.is, e) w.ended in
      let q : (at ≤ n) = omega (arith, (empty_places h e).0) in
      rw k (stands_from s at counts.next _ p (omega (arith, q, w.from)) m)

  pub table_none : (p : ℕ) → r ≡ step.No → Stands s at (left_by (drop at s) (base_count (drop at s))) p → Stands s at (deep_place (drop at s)) p
  unfolding features deep_place
  table_none p e m = let k : features (drop at s) ≡ no = rw (← h.is, e) in rw k m

  pub table_cut : r ≡ step.Cut → at ≤ length s → Stands s at (deep_place (drop at s)) at
  unfolding features deep_place
  table_cut e l = let k : features (drop at s) ≡ cut = rw (← h.is, e) in record { is = rw k refl; from = le_refl at; within = l }

pub ruleset tabling = (table_within, table_got, table_none, table_cut)
