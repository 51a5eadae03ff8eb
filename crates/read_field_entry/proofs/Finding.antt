-- An entry in stages: what each stage makes of the answer of the next. Assumes nothing.
use Prim.Native.Nat.{ℕ, ◌-◌, ◌≤◌, ◌<◌}
use mathlib.Core.Path.{◌≡◌, refl, sym, ◌∙◌, subst}
use mathlib.Core.Bool.{Bool, true, false}
use mathlib.Core.List.{List}
use native.Mathlib.Omega.{arith}
use lib.Dec.{eqb}
use lib.ListN.{length, drop, length-drop}
use Rattle.spec_format.specs.Utf8.{utf8}
use Rattle.spec_format.specs.Readers.{Ans, got, no, cut, bind, passing}
use Rattle.spec_format.specs.Header.{field_text}
use Rattle.spec_loops.specs.Shrinks.{leaves_length}
use Rattle.spec_loops.proofs.Shrinks.{text_takes}
use Rattle.scan_bytes.specs.declared.Step.{Step}
use Rattle.scan_bytes.specs.declared.Step.TheVariants as step
use Rattle.scan_bytes.specs.Places.{part}
use Rattle.scan_bytes.specs.Parts.{length_part}
use Rattle.scan_bytes.specs.Views.{Stepped, Texted}
use Rattle.scan_bytes.specs.Sequence.{step_places, text_places}
use Rattle.scan_utf8.specs.declared.State.{State}
use Rattle.scan_utf8.specs.States.{start, ran_utf8}
use Rattle.read_field_entry.specs.declared.Joined.{Joined}
use Rattle.read_field_entry.specs.declared.Joined.TheVariants as joined
use Rattle.read_field_entry.specs.declared.Entry.{Entry}
use Rattle.read_field_entry.specs.declared.Found.{Found}
use Rattle.read_field_entry.specs.declared.Found.TheVariants as found
use Rattle.read_field_entry.specs.declared.EntryAt.TheVariants as entry
use Rattle.read_field_entry.specs.Texts.{Read, ReadAs, Joins}
use Rattle.read_field_entry.specs.Entries.{Known, Run, FoundAs, Finds, Enters}

-- ---- the text

further_on : (s : List ℕ) (at next n : ℕ) (keep : Bool) (t : List ℕ) → field_text n keep (drop at s) ≡ got t (drop next s) → at ≤ length s → next ≤ length s → at < next
further_on s at next n keep t e h k =
    omega (arith, leaves_length (text_takes n keep (drop at s)) t (drop next s) e, length-drop at s, length-drop next s)

module _ (s : List ℕ) (at n : ℕ) (keep : Bool) (r : Joined) (h : Joins s at (field_text n keep (drop at s)) start 0 r) where
  pub find_no : r ≡ joined.No → Finds s at keep (field_text n keep (drop at s)) found.No
  find_no e = record { is = subst (λ (x : Joined). ReadAs s at (field_text n keep (drop at s)) start 0 x) e h.is }

  pub find_cut : r ≡ joined.Cut → Finds s at keep (field_text n keep (drop at s)) found.Cut
  find_cut e = record { is = subst (λ (x : Joined). ReadAs s at (field_text n keep (drop at s)) start 0 x) e h.is }

  pub find_got : (size next : ℕ) (j : State) → at ≤ length s → r ≡ joined.Got size next j
      → Finds s at keep (field_text n keep (drop at s)) (found.Got (record { text = at; columns = n; length = size; next = next }) j)
  find_got size next j l e =
      let w : Read s at (field_text n keep (drop at s)) start 0 size next j = subst (λ (x : Joined). ReadAs s at (field_text n keep (drop at s)) start 0 x) e h.is in
      record {
        is = record {
          known = record {
            the = w.the;
            is = w.is;
            again = w.is;
            sized = omega (arith, w.sized);
            from = omega arith;
            ahead = further_on s at next n keep w.the w.is l w.within;
            within = w.within;
            small = omega (arith, w.small);
          };
          ran = w.ran;
        };
      }

pub ruleset finding = (find_no, find_cut, find_got)

-- ---- what stands before it

known_from : (s : List ℕ) (at n : ℕ) (keep : Bool) (o p : Ans (List ℕ)) (e : Entry) → o ≡ p → at ≤ n → Known s n keep p e → Known s at keep o e
known_from s at n keep o p e q h k =
    record {
      the = k.the;
      is = q ∙ k.is;
      again = k.again;
      sized = k.sized;
      from = omega (arith, k.from);
      ahead = k.ahead;
      within = k.within;
      small = k.small;
    }

finds_from : (s : List ℕ) (at n : ℕ) (keep : Bool) (o p : Ans (List ℕ)) (r : Found) → o ≡ p → at ≤ n → Finds s n keep p r → Finds s at keep o r
unfolding known_from
finds_from s at n keep o p r q h w = record { is = go r w.is }
  where
    go : (r : Found) → FoundAs s n keep p r → FoundAs s at keep o r
    go (found.Got e j) k = record { known = known_from s at n keep o p e q h k.known; ran = k.ran }
    go found.No k = q ∙ k
    go found.Cut k = q ∙ k

module _ (s : List ℕ) (at : ℕ) (keep : Bool) (o : Ans Unit) (r : Step) (f : Unit → List ℕ → Ans (List ℕ)) where
  pub stage_no : Stepped s at o r → r ≡ step.No → Finds s at keep (bind o f) found.No
  stage_no h e = record { is = rw (← h.is, e) }

  pub stage_cut : Stepped s at o r → r ≡ step.Cut → Finds s at keep (bind o f) found.Cut
  stage_cut h e = record { is = rw (← h.is, e) }

  pub stage_got : (n : ℕ) (q : Found) → Stepped s at o r → r ≡ step.Got n → Finds s n keep (f tt (drop n s)) q → Finds s at keep (bind o f) q
  stage_got n q h e w = finds_from s at n keep (bind o f) (f tt (drop n s)) q (rw (← h.is, e)) (step_places h e).0 w

pub ruleset staging = (stage_no, stage_cut, stage_got)

module _ (s : List ℕ) (at : ℕ) (keep : Bool) (o : Ans (List ℕ)) (r : Step) (f : List ℕ → List ℕ → Ans (List ℕ)) where
  pub gap_no : Texted s at o r → r ≡ step.No → Finds s at keep (bind o f) found.No
  gap_no h e = record { is = rw (← h.is, e) }

  pub gap_cut : Texted s at o r → r ≡ step.Cut → Finds s at keep (bind o f) found.Cut
  gap_cut h e = record { is = rw (← h.is, e) }

  pub gap_got : (n : ℕ) (q : Found) → Texted s at o r → r ≡ step.Got n → Finds s n keep (f (part at n s) (drop n s)) q → Finds s at keep (bind o f) q
  gap_got n q h e w = finds_from s at n keep (bind o f) (f (part at n s) (drop n s)) q (rw (← h.is, e)) (text_places h e).0 w

pub gap_length : (s : List ℕ) (at n : ℕ) (o : Ans (List ℕ)) (r : Step) → Texted s at o r → r ≡ step.Got n → length (part at n s) ≡ n - at
gap_length s at n o r h e = let p = text_places h e in length_part s at n (omega arith) (omega arith)

-- ---- the test of the text

module _ (s : List ℕ) (at : ℕ) (keep : Bool) (o : Ans (List ℕ)) (r : Found) (h : Finds s at keep o r) where
  pub enter_no : (p : List ℕ → Bool) → r ≡ found.No → Enters s at keep (passing p o) entry.No
  enter_no p e = let w : o ≡ no = subst (λ (x : Found). FoundAs s at keep o x) e h.is in record { is = rw w }

  pub enter_cut : (p : List ℕ → Bool) → r ≡ found.Cut → Enters s at keep (passing p o) entry.Cut
  enter_cut p e = let w : o ≡ cut = subst (λ (x : Found). FoundAs s at keep o x) e h.is in record { is = rw w }

  pub enter_none : r ≡ found.No → Enters s at keep o entry.No
  enter_none e = record { is = subst (λ (x : Found). FoundAs s at keep o x) e h.is }

  pub enter_short : r ≡ found.Cut → Enters s at keep o entry.Cut
  enter_short e = record { is = subst (λ (x : Found). FoundAs s at keep o x) e h.is }

  module _ (e : Entry) (j : State) (q : r ≡ found.Got e j) where
    found_as : Run s at keep o e j
    found_as = subst (λ (x : Found). FoundAs s at keep o x) q h.is

    passed : (p : List ℕ → Bool) → p found_as.known.the ≡ true → Enters s at keep (passing p o) (entry.Got e)
    passed p t = record { is = known_from s at at keep (passing p o) o e (rw (found_as.known.is, t)) (omega arith) found_as.known }

    failed : (p : List ℕ → Bool) → p found_as.known.the ≡ false → Enters s at keep (passing p o) entry.No
    failed p t = record { is = rw (found_as.known.is, t) }

    pub enter_any : Enters s at keep o (entry.Got e)
    enter_any = record { is = found_as.known }

    pub enter_utf8 : (b : Bool) → b ≡ eqb j.more 0 → b ≡ true → Enters s at keep (passing utf8 o) (entry.Got e)
    enter_utf8 b k t = passed utf8 (ran_utf8 found_as.known.the j found_as.ran ∙ sym k ∙ t)

    pub enter_other : (b : Bool) → b ≡ eqb j.more 0 → b ≡ false → Enters s at keep (passing utf8 o) entry.No
    enter_other b k t = failed utf8 (ran_utf8 found_as.known.the j found_as.ran ∙ sym k ∙ t)
