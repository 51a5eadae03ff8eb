-- The steps of the readers of heads.
use Prim.Native.Nat.{ℕ, ◌+◌, ◌-◌, ◌≤◌, ◌<◌}
use mathlib.Core.Path.{◌≡◌, sym, ap, ◌∙◌}
use mathlib.Core.Bool.{Bool, true, false, not, and-true, and-false}
use mathlib.Core.List.{List, ◌∷◌}
use native.Mathlib.Omega.{arith}
use borrow.Author.Tests.{eq-eqb, ne_eqb, not-true, not-false}
use native.Mathlib.Numerals.{add-one}
use lib.ListN.{length, drop, get_or, drop_of_length-le}
use lib.Seq.{drop-cons}
use Rattle.spec_format.specs.Bytes.{all, visible}
use Rattle.spec_format.specs.Readers.{Ans, got, no, cut, passing, tag}
use Rattle.spec_format.specs.Features.{qualifier_key, kind_text}
use Rattle.scan_bytes.specs.Places.{part}
use Rattle.scan_bytes.specs.Views.{Texted, Emptied, PastOne}
use Rattle.scan_bytes.specs.declared.Step.{Step}
use Rattle.scan_bytes.specs.declared.Step.TheVariants as step
use Rattle.scan_bytes.specs.Parts.{length_part, part_none, part_cons}
use Rattle.read_feature_names.specs.Headed.{Head, key_slash}

-- all bytes of a part pass a test, one at a time; r is what the test returned
module _ (p : ℕ → Bool) (s : List ℕ) (i to : ℕ) (o : Bool) where
  pub all_go : (r : Bool) → o ≡ all p (part i to s) → i < to → to ≤ length s → r ≡ p (get_or s i 0) → not r ≡ false → o ≡ all p (part (i + 1) to s)
  all_go r inv h k e t = inv ∙ rw (part_cons s i to h k, ← e, not-false r t)

  pub all_no : (r : Bool) → o ≡ all p (part i to s) → i < to → to ≤ length s → r ≡ p (get_or s i 0) → not r ≡ true → false ≡ o
  all_no r inv h k e t = sym (inv ∙ rw (part_cons s i to h k, ← e, not-true r t))

  pub all_done : o ≡ all p (part i to s) → to ≤ i → true ≡ o
  all_done inv h = sym (inv ∙ rw (part_none s i to h))

pub ruleset passing_all = (all_go, all_no, all_done)

-- the test of a kind, whose text is not empty
module _ (s : List ℕ) (from to : ℕ) (h : from < to) (k : to ≤ length s) where
  pub kind_slash : get_or s from 0 ≡ 47 → false ≡ kind_text (part from to s)
  kind_slash e = rw (part_cons s from to h k, eq-eqb _ _ e) (sym (and-false (all visible (get_or s from 0 ∷ part (from + 1) to s))))

  pub kind_plain : (r : Bool) → (get_or s from 0 ≡ 47 → ⊥) → r ≡ all visible (part from to s) → r ≡ kind_text (part from to s)
  kind_plain r n e = e ∙ rw (part_cons s from to h k, ne_eqb _ _ n) (sym (and-true (all visible (get_or s from 0 ∷ part (from + 1) to s))))

-- a text that was read and has to pass a test; q is what the test returned
module _ (p : List ℕ → Bool) {s : List ℕ} {at : ℕ} {o : Ans (List ℕ)} {r : Step} (t : Texted s at o r) where
  pub pass_no : r ≡ step.No → passing p o ≡ no
  pass_no e = rw (← t.is, e)

  pub pass_cut : r ≡ step.Cut → passing p o ≡ cut
  pass_cut e = rw (← t.is, e)

  module _ {n : ℕ} (e : r ≡ step.Got n) {q : Bool} (f : q ≡ p (part at n s)) where
    pub pass_bad : q ≡ false → passing p o ≡ no
    pass_bad g = rw (← t.is, e, ← f, g)

    pub pass_got : q ≡ true → passing p o ≡ got (part at n s) (drop n s)
    pass_got g = rw (← t.is, e, ← f, g)

-- all before the location is the indent
pub gap_indent : (s : List ℕ) (at first end next : ℕ) → at < first → first < end → end ≤ next → next ≤ length s →
    ◌≡◌ {A = Ans Head} (got (record { indent = next - at; kind = part first end s }) (drop next s))
    (got (record { indent = first - at + length (part first end s) + length (part end next s); kind = part first end s }) (drop next s))
gap_indent s at first end next a b c d =
    let k : length (part first end s) ≡ end - first = length_part s first end (omega arith) (omega arith) in
    let m : length (part end next s) ≡ next - end = length_part s end next (omega arith) (omega arith) in
    let e : next - at ≡ first - at + length (part first end s) + length (part end next s) = omega (arith, k, m) in
    ap (λ (n : ℕ). got (record { indent = n; kind = part first end s }) (drop next s)) e

-- the byte before a key
module _ (s : List ℕ) (i : ℕ) where
  pub slash_cut : length s ≤ i → cut ≡ key_slash (drop i s)
  unfolding tag
  slash_cut h = rw (drop_of_length-le s h)

  pub slash_no : i < length s → (get_or s i 0 ≡ 47 → ⊥) → no ≡ key_slash (drop i s)
  unfolding tag
  slash_no h e = rw (drop-cons s i 0 h, tag, ne_eqb _ _ e)

  pub slash_got : i < length s → get_or s i 0 ≡ 47 → qualifier_key (drop (i + 1) s) ≡ key_slash (drop i s)
  unfolding tag
  slash_got h e = rw (add-one, drop-cons s i 0 h, tag, eq-eqb _ _ e)

-- an empty text that was read further on
pub emptied_from : (s : List ℕ) (at from : ℕ) (o : Ans (List ℕ)) (r : Step) → at ≤ from → Emptied s from o r → Emptied s at o r
emptied_from s at from o r h e = record { is = e.is; place = go r e.place }
  where
    go : (r : Step) → PastOne s from r → PastOne s at r
    go (step.Got n) w = (omega (arith, w.0), w.1)
    go step.No w = tt
    go step.Cut w = tt
