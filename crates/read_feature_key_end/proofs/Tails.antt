-- What follows a key, by the steps that read it. Assumes nothing.
use Prim.Native.Nat.{ℕ, ◌+◌, ◌≤◌, ◌<◌}
use mathlib.Core.Path.{◌≡◌, subst}
use mathlib.Core.Bool.{Bool}
use mathlib.Core.List.{List, [], ◌∷◌}
use native.Mathlib.Numerals.{add-one}
use lib.ListN.{length, get_or, drop, drop_of_length-le}
use lib.Seq.{drop-cons}
use borrow.Author.Tests.{eq-eqb, ne_eqb}
use Rattle.spec_format.specs.Readers.{got, no, cut, tag, line_end}
use Rattle.scan_bytes.specs.Views.{Stepped, Emptied}
use Rattle.scan_bytes.specs.Sequence.{step_places, step_is, empty_places}
use Rattle.scan_bytes.specs.declared.Step.{Step}
use Rattle.scan_bytes.specs.declared.Step.TheVariants as step
use Rattle.read_feature_value.specs.Reads.{value_with, Placed, PastRead, ReadIs}
use Rattle.read_feature_value.specs.declared.Read.{Read}
use Rattle.read_feature_value.specs.declared.Read.TheVariants as read
use Rattle.read_feature_key_end.specs.declared.Tail.{Tail}
use Rattle.read_feature_key_end.specs.declared.Tail.TheVariants as tail
use Rattle.read_feature_key_end.specs.Tails.{absent_of, value_of_with, TailIs}

module _ (s : List ℕ) (at : ℕ) where
  pub equals_cut : length s ≤ at → cut ≡ tag (61 ∷ []) (drop at s)
  unfolding tag
  equals_cut h = rw (drop_of_length-le s h)

  pub equals_no : at < length s → (get_or s at 0 ≡ 61 → ⊥) → no ≡ tag (61 ∷ []) (drop at s)
  unfolding tag
  equals_no h e = rw (drop-cons s at 0, tag, ne_eqb _ 61 e)

  pub equals_got : at < length s → get_or s at 0 ≡ 61 → got tt (drop (at + 1) s) ≡ tag (61 ∷ []) (drop at s)
  unfolding tag
  equals_got h e = rw (drop-cons s at 0, tag, eq-eqb _ 61 e, add-one)

module _ (s : List ℕ) (at : ℕ) (joined : Bool) (indent : ℕ) (r : Step) where
  module _ (h : Emptied s at (line_end (drop at s)) r) where
    pub absent_got : (n : ℕ) → r ≡ step.Got n → TailIs s at joined indent (absent_of (drop at s)) (tail.Absent n)
    unfolding absent_of
    absent_got n e = record { is = rw (← h.is, e); place = empty_places h e }

    pub absent_no : r ≡ step.No → TailIs s at joined indent (absent_of (drop at s)) tail.No
    unfolding absent_of
    absent_no e = record { is = rw (← h.is, e); place = tt }

    pub absent_cut : r ≡ step.Cut → TailIs s at joined indent (absent_of (drop at s)) tail.Cut
    unfolding absent_of
    absent_cut e = record { is = rw (← h.is, e); place = tt }

  module _ (h : Stepped s at (tag (61 ∷ []) (drop at s)) r) where
    pub tail_cut : r ≡ step.Cut → TailIs s at joined indent (value_of_with joined indent (drop at s)) tail.Cut
    unfolding value_of_with
    tail_cut e = record { is = rw (← h.is, e); place = tt }

    pub tail_absent : (x : Tail) → r ≡ step.No → TailIs s at joined indent (absent_of (drop at s)) x → TailIs s at joined indent (value_of_with joined indent (drop at s)) x
    unfolding value_of_with
    tail_absent x e g = rw (← h.is, e) g

    module _ (n : ℕ) (e : r ≡ step.Got n) (v : Read) (g : ReadIs s n joined indent (value_with joined indent (drop n s)) v) where
      pub tail_with : (q : Bool) (l next : ℕ) → v ≡ read.Got q l next → TailIs s at joined indent (value_of_with joined indent (drop at s)) (tail.With n q l next)
      unfolding value_of_with
      tail_with q l next f =
          let p : Placed s n joined indent q l next = subst (λ (x : Read). PastRead s n joined indent x) f g.place in
          record { is = rw (step_is h e, ← g.is, f); place = ((step_places h e).0, p) }

      pub tail_bad : (x : Tail) → v ≡ read.No → TailIs s at joined indent (absent_of (drop at s)) x → TailIs s at joined indent (value_of_with joined indent (drop at s)) x
      unfolding value_of_with
      tail_bad x f k = rw (step_is h e, ← g.is, f) k

      pub tail_unclear : v ≡ read.Cut → TailIs s at joined indent (value_of_with joined indent (drop at s)) tail.Cut
      unfolding value_of_with
      tail_unclear f = record { is = rw (step_is h e, ← g.is, f); place = tt }

pub ruleset tails = (equals_cut, equals_no, equals_got, absent_got, absent_no, absent_cut, tail_cut, tail_absent, tail_with, tail_bad, tail_unclear)
