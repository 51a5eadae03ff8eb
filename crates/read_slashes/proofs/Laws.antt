-- The laws of the two loops: what a turn, and each way out, makes of "the answer of the whole is the answer from here".
use Prim.Native.Nat.{ℕ, suc, ◌-◌, ◌≤◌, ◌<◌}
use native.Mathlib.Omega.{arith}
use mathlib.Core.Bool.{Bool, true, false, ◌&&◌, ◌||◌}
use mathlib.Core.Path.{◌≡◌, refl, sym, ap, ◌∙◌}
use mathlib.Core.List.{List, [], ◌∷◌}
use lib.ListN.{length, get_or, drop, length-drop}
use lib.Dec.{eqb}
use Rattle.spec_format.specs.Bytes.{bytes, pick}
use Rattle.spec_format.specs.Readers.{Ans, got, tag, line_end, try_turn, end, while_fits}
use Rattle.spec_format.specs.Record.{left_by, slashes_later}
use Rattle.spec_loops.specs.Loops.{try_end_no, try_end_cut}
use Rattle.spec_loops.proofs.Loops.{try_end_more}
use Rattle.spec_loops.proofs.Shrinks.{line_end_small}
use Rattle.scan_bytes.specs.Views.{Stepped, Emptied}
use Rattle.scan_bytes.specs.Sequence.{step_places, empty_places, step_within}
use Rattle.scan_bytes.specs.declared.Step.{Step}
use Rattle.scan_bytes.specs.declared.Step.TheVariants as step
use Rattle.read_slashes.specs.declared.RecordEnd.TheVariants as ended
use Rattle.scan_lines.specs.Reached.{after_feed, Fed}
use mathlib.Core.Bool.{true≢false}
use Rattle.read_slashes.specs.declared.Seen.{Seen}
use Rattle.read_slashes.specs.Ends.{EmptyPassed, Ended}
use Rattle.read_slashes.specs.Later.{slashes_first, NotHere, Sought}

short : (l : List ℕ) → length l < 3 → slashes_later l ≡ false
unfolding slashes_later
short [] h = refl
short (a ∷ []) h = refl
short (a ∷ b ∷ []) h = refl
short (a ∷ b ∷ c ∷ l) h = absurd (omega arith)

-- ---- what is seen where a line begins

-- its first two bytes
first_two : (l : List ℕ) → 2 ≤ length l → slashes_first l ≡ (eqb (get_or l 0 0) 47 && eqb (get_or l 1 0) 47)
first_two [] h = absurd (omega arith)
first_two (a ∷ []) h = absurd (omega arith)
first_two (a ∷ b ∷ l) h = refl

first_short : (l : List ℕ) → length l < 2 → slashes_first l ≡ false
first_short [] h = refl
first_short (a ∷ []) h = refl
first_short (a ∷ b ∷ l) h = absurd (omega arith)

module _ (l : List ℕ) where
  pub seen_short : length l < 2 → Sought l (record { more = false; found = false })
  seen_short h = record { on = λ q. absurd (true≢false (sym q)); done = λ _. rw (first_short l h, short l (omega arith)) }

  module _ (b : Bool) (h : 2 ≤ length l) (e : b ≡ (eqb (get_or l 0 0) 47 && eqb (get_or l 1 0) 47)) where
    pub seen_slashes : b ≡ true → Sought l (record { more = false; found = true })
    seen_slashes y = record { on = λ q. absurd (true≢false (sym q)); done = λ _. rw (first_two l h, ← e, y) }

    pub seen_other : b ≡ false → Sought l (record { more = true; found = false })
    seen_other y = record { on = λ _. record { none = first_two l h ∙ sym e ∙ y; some = omega arith }; done = λ q. absurd (true≢false q) }

pub ruleset seeing = (seen_short, seen_slashes, seen_other)

-- ---- a later line

-- a later line begins `//`: the next one, or one after it
by_lines : (l : List ℕ) → slashes_later l ≡ (slashes_first (after_feed l) || slashes_later (after_feed l))
unfolding slashes_later after_feed
by_lines [] = refl
by_lines (a ∷ []) = go (eqb a 10) refl
  where
    go : (x : Bool) → eqb a 10 ≡ x → slashes_later (a ∷ []) ≡ (slashes_first (after_feed (a ∷ [])) || slashes_later (after_feed (a ∷ [])))
    go true e = rw (after_feed, e)
    go false e = rw (after_feed, e)
by_lines (a ∷ b ∷ []) = go (by_lines (b ∷ [])) (eqb a 10) refl
  where
    go : slashes_later (b ∷ []) ≡ (slashes_first (after_feed (b ∷ [])) || slashes_later (after_feed (b ∷ []))) → (x : Bool) → eqb a 10 ≡ x
        → slashes_later (a ∷ b ∷ []) ≡ (slashes_first (after_feed (a ∷ b ∷ [])) || slashes_later (after_feed (a ∷ b ∷ [])))
    go ih true e = rw (after_feed, e)
    go ih false e = rw (after_feed, e) ih
by_lines (a ∷ b ∷ c ∷ l) = go (by_lines (b ∷ c ∷ l)) (eqb a 10) refl
  where
    go : slashes_later (b ∷ c ∷ l) ≡ (slashes_first (after_feed (b ∷ c ∷ l)) || slashes_later (after_feed (b ∷ c ∷ l))) → (x : Bool) → eqb a 10 ≡ x
        → slashes_later (a ∷ b ∷ c ∷ l) ≡ (slashes_first (after_feed (a ∷ b ∷ c ∷ l)) || slashes_later (after_feed (a ∷ b ∷ c ∷ l)))
    go ih true e = rw (slashes_later, after_feed, e)
    go ih false e = rw (slashes_later, after_feed, e) ih

-- where the loop stands: the answer is that from p on, or it is clear
pub record Later (s : List ℕ) (at p : ℕ) (t : Seen) : Type 0 where
  pub on : t.more ≡ true → slashes_later (drop at s) ≡ slashes_later (drop p s)
  pub done : t.more ≡ false → t.found ≡ slashes_later (drop at s)

pub later_start : (s : List ℕ) (at : ℕ) → Later s at at (record { more = true; found = false })
later_start s at = record { on = λ _. refl; done = λ q. absurd (true≢false q) }

-- how far it is to the end, and nothing more where the answer is clear
abbrev pub left : List ℕ → ℕ → Seen → ℕ
left s p t = pick t.more (suc (length s - p)) 0

-- the next line was looked at
module _ (s : List ℕ) (at p r : ℕ) (t u : Seen) (h : Later s at p t) (y : t.more ≡ true) (d : Fed s p r) (w : Sought (drop r s) u) where
  pub later_on : Later s at r u
  later_on =
      let e : slashes_later (drop at s) ≡ (slashes_first (drop r s) || slashes_later (drop r s)) = h.on y ∙ by_lines (drop p s) ∙ ap (λ (l : List ℕ). slashes_first l || slashes_later l) (sym d.is) in
      record {
        on = λ q. let k : NotHere (drop r s) = w.on q in e ∙ ap (λ (b : Bool). b || slashes_later (drop r s)) k.none;
        done = λ q. w.done q ∙ sym e;
      }

  pub later_less : left s r u < left s p t
  later_less = rw y (go u.more refl)
    where
      go : (x : Bool) → u.more ≡ x → pick u.more (suc (length s - r)) 0 < suc (length s - p)
      go true q =
          let k : NotHere (drop r s) = w.on q in
          let i : 0 < length s - r = rw (← length-drop r s) k.some in
          let f : p ≤ r = d.from in
          let g : p < r = d.further (omega arith) in
          rw q (omega arith)
      go false q = rw q (omega arith)

-- ---- empty lines

abbrev pub empty_end : List ℕ → Ans Unit
empty_end s = end (try_turn line_end) s

left_is : (s r : List ℕ) → empty_end s ≡ got tt r → left_by s (while_fits line_end s) ≡ r
left_is s r e = rw e

module _ (s : List ℕ) (at i : ℕ) (o : Step) (inv : empty_end (drop at s) ≡ empty_end (drop i s)) (h : Emptied s i (line_end (drop i s)) o) where
  pub empty_on : (n : ℕ) → o ≡ step.Got n → empty_end (drop at s) ≡ empty_end (drop n s)
  empty_on n e = inv ∙ try_end_more line_end line_end_small (drop i s) [] (drop n s) (rw (← h.is, e))

  pub empty_less : (n : ℕ) → o ≡ step.Got n → length s - n < length s - i
  empty_less n e = let p : (i < n) × (n ≤ length s) = empty_places h e in omega arith

  pub empty_from : at ≤ i → (n : ℕ) → o ≡ step.Got n → at ≤ n
  empty_from f n e = let p : (i < n) × (n ≤ length s) = empty_places h e in omega arith

  pub empty_inside : (n : ℕ) → o ≡ step.Got n → n ≤ length s
  empty_inside n e = (empty_places h e).1

  pub empty_no : at ≤ i → i ≤ length s → o ≡ step.No → EmptyPassed s at i
  empty_no f w e = record { is = left_is (drop at s) (drop i s) (inv ∙ try_end_no line_end (drop i s) (rw (← h.is, e))); from = f; within = w }

  pub empty_cut : at ≤ i → i ≤ length s → o ≡ step.Cut → EmptyPassed s at i
  empty_cut f w e = record { is = left_is (drop at s) (drop i s) (inv ∙ try_end_cut line_end (drop i s) (rw (← h.is, e))); from = f; within = w }

-- ---- the record's end, by what stands there

module _ (s : List ℕ) (at : ℕ) (r : Step) (h : Stepped s at (tag (bytes "//") (drop at s)) r) where
  pub end_at : (n k : ℕ) → r ≡ step.Got n → EmptyPassed s n k → Ended s at (ended.At k)
  end_at n k e w =
      let p : (at ≤ n) × (n ≤ length s) = step_places h e in
      let f : n ≤ k = w.from in
      record { is = λ t. rw (← h.is, e, w.is); place = (omega arith, w.within) }

  pub end_later : (b : Bool) → r ≡ step.No → b ≡ slashes_later (drop at s) → b ≡ true → Ended s at ended.NoSlashes
  end_later b e f t = record { is = λ _. rw (← h.is, e, ← f, t); place = tt }

  pub end_never : (b : Bool) → r ≡ step.No → b ≡ slashes_later (drop at s) → b ≡ false → Ended s at ended.Unended
  end_never b e f t = record { is = λ _. rw (← h.is, e, ← f, t); place = tt }

  pub end_cut : r ≡ step.Cut → Ended s at ended.Unended
  end_cut e = record { is = λ t. rw (← h.is, e); place = tt }

pub ruleset emptying = (empty_on, empty_less, empty_from, empty_inside, empty_no, empty_cut)

pub ruleset ending = (end_at, end_later, end_never, end_cut, step_within)
