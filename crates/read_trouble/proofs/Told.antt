-- The laws of the places counted from the place given, and of the line that an answer tells.
use Prim.Native.Nat.{ℕ, ◌-◌, ◌≤◌, ◌<◌}
use native.Mathlib.Nat.{le_refl}
use native.Mathlib.Omega.{arith}
use mathlib.Core.Bool.{Bool, true, false, not, ◌&&◌}
use mathlib.Core.Path.{◌≡◌, refl, sym, ap, ◌∙◌}
use mathlib.Core.List.{List, []}
use lib.ListN.{length, drop, drop_of_length-le}
use lib.Dec.{eqb, leb}
use borrow.Author.Tests.{lt-leb}
use Rattle.spec_format.specs.Bytes.{May, absent, is, pick}
use Rattle.spec_format.specs.Record.{Outcome, was_read, not_read, most, deep_in, list_of, read_record}
use Rattle.spec_format.specs.Strict.{record_by, read_by}
use Rattle.spec_format.specs.Rooms.{Rooms, sizes, fits, head_of, answer_of, read_answer}
use Rattle.spec_format.specs.declared.Head.{Head}
use Rattle.spec_format.specs.declared.Sizes.{Sizes}
use Rattle.spec_format.specs.declared.Unread.{Unread}
use Rattle.spec_format.specs.declared.Unread.TheVariants as unread
use Rattle.spec_format.specs.declared.ReadAnswer.{ReadAnswer}
use Rattle.spec_format.specs.declared.ReadAnswer.TheVariants as answers
use Rattle.spec_format.specs.Impossible.{impossible}
use Rattle.spec_lines.specs.declared.Spot.{Spot}
use Rattle.spec_lines.specs.Lines.{nowhere, spot_of}
use Rattle.spec_lines.specs.Stands.{Stands}
use Rattle.spec_lines.specs.Troubles.{searched, header_begins, header_ends, second_definition, sections_end, deep_place, troubled, spot_at}
use Rattle.read_trouble.specs.Found.{sections_end_by, Shallow, standing, lined, StandsAt, Found, SpotTold}
use Rattle.spec_strict.specs.Switch.{other_refusal, stray_stands}
use Rattle.read_trouble.proofs.Searched.{late, not_deep}
use Rattle.read_trouble.proofs.Stray.{sections_off, stray_ends}
use Rattle.read_trouble.proofs.Ends.{stands_from}

-- ---- from where the header begins or ends on, from the place given on

module _ (s : List ℕ) (at n : ℕ) (x : List ℕ) (h : Stands s at x n) where
  pub header_within : n ≤ length s
  header_within = h.within

  pub second_from : (r : ℕ) → Stands s n (second_definition (drop n s)) r → Stands s at (second_definition x) r
  second_from r w = rw (← h.is) (stands_from s at n (second_definition (drop n s)) r h.from w)

  pub deep_from_lem : (r : ℕ) → Stands s n (deep_place (drop n s)) r → Stands s at (deep_place x) r
  deep_from_lem r w = rw (← h.is) (stands_from s at n (deep_place (drop n s)) r h.from w)

  pub sections_from : (strict : Bool) (r : ℕ) → Shallow (deep_in (drop n s)) s n (sections_end_by strict (drop n s)) r → Shallow (deep_in x) s at (sections_end_by strict x) r
  sections_from strict r w = rw (← h.is) (record { is = w.is; from = omega (arith, h.from, w.from); within = w.within })

pub ruleset heading = (header_within, second_from, deep_from_lem, sections_from)

-- ---- the place of each trouble

module _ (s : List ℕ) (at : ℕ) (why : Unread) where
  end_is : drop (length s) s ≡ []
  end_is = drop_of_length-le s (le_refl (length s))

  pub found_end : why ≡ unread.AtEnd → at ≤ length s → Found s at why (length s)
  found_end q l = rw q (record { is = λ _ _. tt; from = l; within = le_refl (length s) })

  pub found_unended : why ≡ unread.Unended → at ≤ length s → Found s at why (length s)
  found_unended q l = rw q (record { is = λ _ _. end_is; from = l; within = le_refl (length s) })

  pub found_bad : why ≡ unread.BadPlace → at ≤ length s → Found s at why (length s)
  found_bad q l = rw q (record { is = λ _ _. tt; from = l; within = le_refl (length s) })

  pub found_locus : (r : ℕ) → why ≡ unread.NoLocus → Stands s at (searched (drop at s)) r → Found s at why r
  found_locus r q h = rw q (record { is = λ _ _. h.is; from = h.from; within = h.within })

  pub found_second : (r : ℕ) → why ≡ unread.TwoDefinitions → Stands s at (second_definition (header_begins (drop at s))) r → Found s at why r
  found_second r q h = rw q (record { is = λ _ _. h.is; from = h.from; within = h.within })

  pub found_deep : (r : ℕ) → why ≡ unread.TooDeep → Stands s at (deep_place (header_ends (drop at s))) r → Found s at why r
  found_deep r q h = rw q (record { is = λ _ _. h.is; from = h.from; within = h.within })

  -- the same reason without the switch, if it is no stray letter
  not_stray : (strict : Bool) → late (not_read why) ≡ true → record_by strict (drop at s) ≡ not_read why → read_record (drop at s) ≡ not_read why
  not_stray strict l e = other_refusal strict (drop at s) why e (λ k. let m : late (not_read unread.StrayLetter) ≡ true = rw k at l in impossible cc)

  module _ (r : ℕ) (h : Shallow (deep_in (header_ends (drop at s))) s at (sections_end_by false (header_ends (drop at s))) r) where
    found_late : late (not_read why) ≡ true → troubled why (drop at s) ≡ is (sections_end (header_ends (drop at s))) → Found s at why r
    found_late l q =
        record {
          is = λ strict e.
              let k : drop r s ≡ sections_end (header_ends (drop at s)) = h.is (not_deep (drop at s) why l (not_stray strict l e)) ∙ sections_off (header_ends (drop at s)) in
              rw q k;
          from = h.from;
          within = h.within;
        }

    pub found_slashes : why ≡ unread.NoSlashes → Found s at why r
    found_slashes q = found_late (rw q) (rw q)

    pub found_length : why ≡ unread.OtherLength → Found s at why r
    found_length q = found_late (rw q) (rw q)

    pub found_letter : why ≡ unread.BadLetter → Found s at why r
    found_letter q = found_late (rw q) (rw q)

  pub found_stray : (r : ℕ) → why ≡ unread.StrayLetter → Shallow (deep_in (header_ends (drop at s))) s at (sections_end_by true (header_ends (drop at s))) r → Found s at why r
  found_stray r q h =
      rw q
      (record {
        is = λ strict e.
            let k = stray_stands strict (drop at s) e in
            let m = stray_ends (drop at s) k.0 k.1 in
            h.is m.shallow ∙ (m.ends ∙ sym (ap list_of k.1));
        from = h.from;
        within = h.within;
      })

pub ruleset finding = (found_end, found_unended, found_bad, found_locus, found_second, found_deep, found_slashes, found_length, found_letter, found_stray)

module _ (s : List ℕ) (at : ℕ) (why : Unread) (r : ℕ) (h : Found s at why r) where
  pub found_from : at ≤ r
  found_from = h.from

  pub found_within : r ≤ length s
  found_within = h.within

-- ---- what an answer says of the call

answer_not : (n : ℕ) (rooms : Rooms) (o : Outcome) (why : Unread) → answers.Refused why ≡ answer_of n rooms o → o ≡ not_read why
unfolding answer_of
answer_not n rooms (was_read t r) why e = go (fits (sizes t) rooms) refl
  where
    go : (b : Bool) → fits (sizes t) rooms ≡ b → was_read t r ≡ not_read why
    go true f = let k : answer_of n rooms (was_read t r) ≡ answers.Done (head_of t) (n - length r) = rw (answer_of, f) in impossible cc
    go false f = let k : answer_of n rooms (was_read t r) ≡ answers.Room (sizes t) = rw (answer_of, f) in impossible cc
answer_not n rooms (not_read u) why e = cc

module _ (s : List ℕ) (at : ℕ) where
  -- past the largest slice, or the slice's end, only 3 is answered, which tells no line
  outside : (leb (length s) most && leb at (length s)) ≡ false → (a : ReadAnswer) → SpotTold s at a nowhere
  unfolding read_answer read_by answer_of
  outside f a = record { is = λ strict rooms e. let k : a ≡ answers.Refused unread.BadPlace = e ∙ rw (read_answer, read_by, f) in rw k refl }

  and_false : (x : Bool) → (x && false) ≡ false
  and_false true = refl
  and_false false = refl

  pub too_long : (a : ReadAnswer) (r : Spot) → most < length s → r ≡ nowhere → SpotTold s at a r
  too_long a r l e = rw e (outside (rw (lt-leb (length s) most l)) a)

  pub too_far : (a : ReadAnswer) (r : Spot) → length s < at → r ≡ nowhere → SpotTold s at a r
  too_far a r l e = rw e (outside (rw (lt-leb at (length s) l) (and_false (leb (length s) most))) a)

  pub told_done : (a : ReadAnswer) (head : Head) (place : ℕ) (r : Spot) → a ≡ answers.Done head place → r ≡ nowhere → SpotTold s at a r
  told_done a head place r q e = rw q (record { is = λ _ rooms _. e })

  pub told_refused : (a : ReadAnswer) (why : Unread) (r : Spot) → a ≡ answers.Refused why → SpotTold s at (answers.Refused why) r → SpotTold s at a r
  told_refused a why r q h = rw q h

  pub told_room : (a : ReadAnswer) (n : Sizes) (r : Spot) → a ≡ answers.Room n → r ≡ spot_of s at (searched (drop at s)) → SpotTold s at a r
  told_room a n r q e = rw q (record { is = λ _ rooms _. e })

  pub locus_from_lem : (p : ℕ) → Stands s at (searched (drop at s)) p → at ≤ p
  locus_from_lem p h = h.from

  pub locus_within : (p : ℕ) → Stands s at (searched (drop at s)) p → p ≤ length s
  locus_within p h = h.within

  pub locus_told : (p : ℕ) (r : Spot) → Stands s at (searched (drop at s)) p → r ≡ spot_of s at (drop p s) → r ≡ spot_of s at (searched (drop at s))
  locus_told p r h e = e ∙ ap (spot_of s at) h.is

pub ruleset telling = (too_long, too_far, told_done, told_refused, told_room)

pub ruleset locating = (locus_from_lem, locus_within, locus_told)

-- ---- a refusal

module _ (s : List ℕ) (at : ℕ) (why : Unread) (b : Bool) (g : b ≡ lined why) where
  none : (x : List ℕ) → (w : Unread) → lined w ≡ false → nowhere ≡ spot_at s at (troubled w x)
  none x unread.AtEnd e = refl
  none x unread.Unended e = impossible cc
  none x unread.BadPlace e = refl
  none x unread.NoLocus e = impossible cc
  none x unread.TwoDefinitions e = impossible cc
  none x unread.NoSlashes e = impossible cc
  none x unread.OtherLength e = impossible cc
  none x unread.BadLetter e = impossible cc
  none x unread.TooDeep e = impossible cc
  none x unread.StrayLetter e = impossible cc

  not_true : (x : Bool) → not x ≡ true → x ≡ false
  not_true true e = sym e
  not_true false e = refl

  not_false : (x : Bool) → not x ≡ false → x ≡ true
  not_false true e = refl
  not_false false e = sym e

  pub refusal_none : (r : Spot) → not b ≡ true → r ≡ nowhere → SpotTold s at (answers.Refused why) r
  refusal_none r n e = record { is = λ _ rooms _. e ∙ none (drop at s) why (sym g ∙ not_true b n) }

  -- a line is told only where a record was tried at the place
  tried : (o : Outcome) → pick (leb (length s) most && leb at (length s)) (pick (eqb at (length s)) (not_read unread.AtEnd) o) (not_read unread.BadPlace) ≡ not_read why → lined why ≡ true → o ≡ not_read why
  tried o e l = go (leb (length s) most && leb at (length s)) (eqb at (length s)) e
    where
      go : (x y : Bool) → pick x (pick y (not_read unread.AtEnd) o) (not_read unread.BadPlace) ≡ not_read why → o ≡ not_read why
      go true true f = let k : why ≡ unread.AtEnd = cc in let m : lined unread.AtEnd ≡ true = rw k at l in impossible cc
      go true false f = f
      go false y f = let k : why ≡ unread.BadPlace = cc in let m : lined unread.BadPlace ≡ true = rw k at l in impossible cc

  standing_told : (m : May (List ℕ)) (p : ℕ) (r : Spot) → standing m ≡ true → StandsAt s m p → r ≡ spot_of s at (drop p s) → r ≡ spot_at s at m
  standing_told absent p r l h e = impossible cc
  standing_told (is t) p r l h e = e ∙ ap (spot_of s at) h

  same_standing : (x : List ℕ) (w : Unread) → lined w ≡ standing (troubled w x)
  same_standing x unread.AtEnd = refl
  same_standing x unread.Unended = refl
  same_standing x unread.BadPlace = refl
  same_standing x unread.NoLocus = refl
  same_standing x unread.TwoDefinitions = refl
  same_standing x unread.NoSlashes = refl
  same_standing x unread.OtherLength = refl
  same_standing x unread.BadLetter = refl
  same_standing x unread.TooDeep = refl
  same_standing x unread.StrayLetter = refl

  pub refusal_told : (p : ℕ) (r : Spot) → not b ≡ false → Found s at why p → r ≡ spot_of s at (drop p s) → SpotTold s at (answers.Refused why) r
  unfolding read_answer read_by
  refusal_told p r n h e = record {
    is = λ strict rooms q.
        let l : lined why ≡ true = sym g ∙ not_false b n in
        let o : record_by strict (drop at s) ≡ not_read why = tried (record_by strict (drop at s)) (answer_not (length s) rooms (read_by strict s at) why q) l in
        standing_told (troubled why (drop at s)) p r (sym (same_standing (drop at s) why) ∙ l) (h.is strict o) e;
  }

pub ruleset refusing = (found_from, found_within, refusal_none, refusal_told)
