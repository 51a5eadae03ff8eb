-- One further line of a bare text, and the loops over them. Assumes nothing.
use Prim.Native.Nat.{ℕ, zero, suc, ◌+◌, ◌-◌, ◌≤◌, ◌<◌}
use mathlib.Core.Path.{◌≡◌, refl, sym, subst, ◌∙◌}
use mathlib.Core.Bool.{Bool, true, false}
use mathlib.Core.List.{List}
use native.Mathlib.Omega.{arith}
use lib.ListN.{length, get_or, drop, drop_of_length-le}
use lib.Seq.{drop-cons}
use borrow.Author.Tests.{eq-eqb, ne_eqb}
use lib.Dec.{eqb}
use Rattle.spec_format.specs.Bytes.{spaces}
use Rattle.spec_format.specs.Readers.{Ans, got, no, bind, tag, line, Turn, end}
use Rattle.spec_format.specs.Features.{not_slash, bare_turn, bare_more}
use Rattle.spec_loops.specs.Loops.{end_stops, end_noes, end_cuts}
use Rattle.spec_loops.proofs.Loops.{end_on}
use Rattle.spec_loops.proofs.Shrinks.{bare_more_small}
use Rattle.scan_bytes.specs.Places.{part}
use Rattle.scan_bytes.specs.Views.{Stepped, Lined}
use Rattle.scan_bytes.specs.Sequence.{step_places, step_is, line_places, line_is}
use Rattle.scan_bytes.specs.Parts.{length_part}
use Rattle.scan_bytes.specs.declared.Step.{Step}
use Rattle.scan_bytes.specs.declared.Step.TheVariants as step
use Rattle.scan_bytes.specs.declared.Line.{Line}
use Rattle.scan_bytes.specs.declared.Line.TheVariants as line'
use Rattle.read_feature_joined.specs.Taken.{taken, gathered, taken_more, taken_stop, gathered_got, gathered_no, gathered_cut, SoFar, so_none, so_more, so_size, so_ran}
use Rattle.scan_utf8.specs.declared.State.{State}
use Rattle.scan_utf8.specs.States.{Ran}
use Rattle.read_feature_bare.specs.declared.Further.{Further}
use Rattle.read_feature_bare.specs.declared.Further.TheVariants as further
use Rattle.read_feature_bare.specs.declared.Bare.TheVariants as bare'
use Rattle.read_feature_bare.specs.Bared.{LineSpan, Furthered, further_of, PastFurther, Bared}

module _ (s : List ℕ) (i : ℕ) where
  pub slash_end : length s ≤ i → no ≡ not_slash (drop i s)
  slash_end h = rw (drop_of_length-le s h)

  pub slash_no : i < length s → get_or s i 0 ≡ 47 → no ≡ not_slash (drop i s)
  slash_no h e = rw (drop-cons s i 0, eq-eqb _ 47 e)

  pub slash_got : i < length s → (get_or s i 0 ≡ 47 → ⊥) → got tt (drop i s) ≡ not_slash (drop i s)
  slash_got h e = rw (drop-cons s i 0, ne_eqb _ 47 e)

-- whatever stands before it, a slash after the indent is no further line
slash_after : (s : List ℕ) (n i : ℕ) → i + n < length s → get_or s (i + n) 0 ≡ 47 → bind (tag (spaces n) (drop i s)) (λ _ z. not_slash z) ≡ no
unfolding tag
slash_after s zero i h e = let f : i + 0 ≡ i = omega arith in sym (slash_no s i (omega arith) (rw f at e))
slash_after s (suc n) i h e = go (slash_after s n (suc i)) (eqb (get_or s i 0) 32) refl
  where
    f : suc i + n ≡ i + suc n
    f = omega arith

    go : (suc i + n < length s → get_or s (suc i + n) 0 ≡ 47 → bind (tag (spaces n) (drop (suc i) s)) (λ _ z. not_slash z) ≡ no) → (x : Bool) → eqb (get_or s i 0) 32 ≡ x
        → bind (tag (spaces (suc n)) (drop i s)) (λ _ z. not_slash z) ≡ no
    go ih true q = let k : i < length s = omega arith in rw (drop-cons s i 0, tag, q) (ih (omega arith) (rw f e))
    go ih false q = let k : i < length s = omega arith in rw (drop-cons s i 0, tag, q)

pub slash_stops : (s : List ℕ) (at n : ℕ) → at + n < length s → get_or s (at + n) 0 ≡ 47 → Stepped s at (bind (tag (spaces n) (drop at s)) (λ _ z. not_slash z)) step.No
slash_stops s at n h e = record { is = sym (slash_after s n at h e); place = tt }

pub step_after : (s : List ℕ) (at : ℕ) (o : Ans Unit) (r : Step) (n : ℕ) → Stepped s at o r → r ≡ step.Got n → at ≤ n
step_after s at o r n h e = (step_places h e).0

pub ruleset slashes = (slash_end, slash_no, slash_got, step_after)

-- what the indent and the line say of a turn
module _ (s : List ℕ) (at : ℕ) (o : Ans Unit) (r : Step) where
  pub turn_stop : Stepped s at o r → r ≡ step.No → Furthered s at (bare_turn (drop at s) o) further.Stop
  turn_stop h e = record { is = rw (← h.is, e); place = tt }

  pub turn_unclear : Stepped s at o r → r ≡ step.Cut → Furthered s at (bare_turn (drop at s) o) further.Cut
  turn_unclear h e = record { is = rw (← h.is, e); place = tt }

  module _ (from : ℕ) (l : Line) where
    pub turn_line : (end next : ℕ) → Stepped s at o r → r ≡ step.Got from → Lined s from (line (drop from s)) l → l ≡ line'.Got end next
        → Furthered s at (bare_turn (drop at s) o) (further.Line from end next)
    turn_line end next h e g f =
        let p = step_places h e in let q = line_places g f in
        record { is = rw (step_is h e, line_is g f); place = record { after = p.0; long = q.0; ended = q.1; within = q.2 } }

    pub turn_no : Stepped s at o r → r ≡ step.Got from → Lined s from (line (drop from s)) l → l ≡ line'.No
        → Furthered s at (bare_turn (drop at s) o) further.No
    turn_no h e g f = record { is = rw (step_is h e, ← g.is, f); place = tt }

    pub turn_cut : Stepped s at o r → r ≡ step.Got from → Lined s from (line (drop from s)) l → l ≡ line'.Cut
        → Furthered s at (bare_turn (drop at s) o) further.Cut
    turn_cut h e g f = record { is = rw (step_is h e, ← g.is, f); place = tt }

pub ruleset turns = (turn_stop, turn_unclear, turn_line, turn_no, turn_cut)

pub further_places : {s : List ℕ} {at : ℕ} {o : Ans (Turn (List ℕ))} {r : Further} {from end next : ℕ}
    → Furthered s at o r → r ≡ further.Line from end next → LineSpan s at from end next
further_places {s} {at} h e = subst (λ (x : Further). PastFurther s at x) e h.place

-- the same, as a loop asks it
module _ (s : List ℕ) (at : ℕ) (o : Ans (Turn (List ℕ))) (r : Further) (from end next : ℕ) (h : Furthered s at o r) (e : r ≡ further.Line from end next) where
  pub further_long : from ≤ end
  further_long = (further_places h e).long

  pub further_ended : end ≤ length s
  further_ended = let p = further_places h e in omega arith

  pub further_less : length s - next < length s - at
  further_less = let p = further_places h e in omega arith

pub ruleset places = (further_long, further_ended, further_less)

pub further_is : {s : List ℕ} {at : ℕ} {o : Ans (Turn (List ℕ))} {r x : Further} → Furthered s at o r → r ≡ x → o ≡ further_of s at x
further_is h e = rw (← h.is, e)

-- the scan of further lines has come from `at` to i
pub record Going (s : List ℕ) (at indent first : ℕ) (before : State) (i n : ℕ) (state : State) : Type 0 where
  pub from : at ≤ i
  pub below : first ≤ at
  pub within : i ≤ length s
  pub counts : first ≤ n
  pub short : n + at ≤ i + first
  pub ends : end (bare_more indent) (drop at s) ≡ end (bare_more indent) (drop i s)
  pub so : SoFar (taken (bare_more indent) (drop at s)) (n - first) before state (taken (bare_more indent) (drop i s))

module _ (s : List ℕ) (at indent first : ℕ) (before : State) where
  pub going_none : at ≤ length s → first ≤ at → Going s at indent first before at first before
  going_none h k =
      let z : first - first ≡ 0 = omega arith in
      record { from = omega arith; below = k; counts = omega arith; within = h; short = omega arith; ends = refl; so = rw z (so_none _ before) }

  module _ (i n : ℕ) (state : State) (r : Further) where
    pub going_on : (from end next : ℕ) (state' : State)
        → Going s at indent first before i n state → Furthered s i (bare_more indent (drop i s)) r → r ≡ further.Line from end next
        → Ran state (part from end s) state'
        → Going s at indent first before next (n + (end - from)) state'
    going_on from end next state' g h e u =
        let p = further_places h e in
        let l = p.after in let m = p.long in let k = p.ended in let w = p.within in
        let a = g.from in let b = g.short in let q = g.counts in
        let z : n - first + (end - from) ≡ n + (end - from) - first = omega arith in
        let j : end ≤ length s = omega arith in
        let x : length (part from end s) ≡ end - from = length_part s from end m j in
        let y = taken_more (bare_more indent) (drop i s) (bare_more_small indent) (part from end s) (drop next s) (further_is h e) in
        record {
          from = omega arith;
          below = g.below;
          counts = omega arith;
          within = w;
          short = omega arith;
          ends = end_on (bare_more indent) (drop i s) _ (bare_more_small indent) (part from end s) (drop next s) g.ends (further_is h e);
          so = rw (x, z) at (so_more (part from end s) (taken (bare_more indent) (drop next s)) g.so y u);
        }

    pub going_stop : Going s at indent first before i n state → Furthered s i (bare_more indent (drop i s)) r → r ≡ further.Stop
        → Bared s at first before (taken (bare_more indent) (drop at s)) (gathered (bare_more indent) (drop at s)) (bare'.Got n i state)
    going_stop g h e =
        let q = g.counts in
        let k = so_size g.so (taken_stop (bare_more indent) (drop i s) (drop i s) (further_is h e)) in
        let y = taken_stop (bare_more indent) (drop i s) (drop i s) (further_is h e) in
        record {
          is = sym (gathered_got (bare_more indent) (drop at s) (drop i s) (end_stops (bare_more indent) (drop i s) _ (drop i s) g.ends (further_is h e)));
          place =
              record {
                from = g.from;
                within = g.within;
                long = omega arith;
                short = g.short;
                ran = so_ran g.so y;
              };
        }

    pub going_no : Going s at indent first before i n state → Furthered s i (bare_more indent (drop i s)) r → r ≡ further.No
        → Bared s at first before (taken (bare_more indent) (drop at s)) (gathered (bare_more indent) (drop at s)) bare'.No
    going_no g h e =
        record { is = sym (gathered_no (bare_more indent) (drop at s) (end_noes (bare_more indent) (drop i s) _ g.ends (further_is h e))); place = tt }

    pub going_cut : Going s at indent first before i n state → Furthered s i (bare_more indent (drop i s)) r → r ≡ further.Cut
        → Bared s at first before (taken (bare_more indent) (drop at s)) (gathered (bare_more indent) (drop at s)) bare'.Cut
    going_cut g h e =
        record { is = sym (gathered_cut (bare_more indent) (drop at s) (end_cuts (bare_more indent) (drop i s) _ g.ends (further_is h e))); place = tt }

pub ruleset goings = (going_none, going_on, going_stop, going_no, going_cut)
