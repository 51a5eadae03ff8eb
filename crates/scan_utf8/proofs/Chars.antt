-- What one byte makes of the state, and the loops over the bytes of a part. Assumes nothing.
use Prim.Native.Nat.{ℕ, zero, suc, ◌+◌, ◌≤◌, ◌<◌}
use mathlib.Core.Path.{◌≡◌, refl, sym, ◌∙◌}
use mathlib.Core.Bool.{Bool, true, false}
use mathlib.Core.List.{List, [], ◌∷◌, ◌++◌}
use native.Mathlib.Numerals.{sub-one}
use native.Mathlib.Omega.{arith}
use borrow.Author.Tests.{lt-ltb, le-ltb, lt-leb, eq-eqb, ne_eqb, leb-true}
use lib.Dec.{eqb, leb, ltb}
use lib.ListN.{length, get_or}
use Rattle.spec_format.specs.Bytes.{pick, between, all}
use Rattle.spec_format.specs.Utf8.{chars}
use Rattle.scan_bytes.specs.Places.{part}
use Rattle.scan_bytes.specs.Parts.{part_snoc}
use Rattle.scan_utf8.specs.declared.State.{State}
use Rattle.scan_utf8.specs.States.{start, failed, chars_from, ascii, lead_of, step_of, state, Ran, ran_append}

failed_none : (y : List ℕ) → false ≡ chars_from failed y
unfolding chars
failed_none [] = refl
failed_none (b ∷ y) = go (leb 1 b) refl
  where
    go : (x : Bool) → leb 1 b ≡ x → false ≡ chars 1 1 0 (b ∷ y)
    go true h = rw (chars, h, lt-leb b 0 (leb-true 1 b h))
    go false h = rw (chars, h)

lead_on : (lo hi b : ℕ) (y : List ℕ) → chars 0 lo hi (b ∷ y) ≡ chars_from (lead_of b) y
unfolding chars lead_of
lead_on lo hi b y = go (ltb b 128) refl (between 194 223 b) refl (eqb b 224) refl (eqb b 237) refl (between 225 239 b) refl (eqb b 240) refl (between 241 243 b) refl (eqb b 244) refl
  where
    go : (a : Bool) → ltb b 128 ≡ a → (c : Bool) → between 194 223 b ≡ c → (d : Bool) → eqb b 224 ≡ d → (e : Bool) → eqb b 237 ≡ e
        → (f : Bool) → between 225 239 b ≡ f → (g : Bool) → eqb b 240 ≡ g → (h : Bool) → between 241 243 b ≡ h → (i : Bool) → eqb b 244 ≡ i
        → chars 0 lo hi (b ∷ y) ≡ chars_from (lead_of b) y
    go true q1 c q2 d q3 e q4 f q5 g q6 h q7 i q8 = rw (chars, lead_of, q1)
    go false q1 true q2 d q3 e q4 f q5 g q6 h q7 i q8 = rw (chars, lead_of, q1, q2)
    go false q1 false q2 true q3 e q4 f q5 g q6 h q7 i q8 = rw (chars, lead_of, q1, q2, q3)
    go false q1 false q2 false q3 true q4 f q5 g q6 h q7 i q8 = rw (chars, lead_of, q1, q2, q3, q4)
    go false q1 false q2 false q3 false q4 true q5 g q6 h q7 i q8 = rw (chars, lead_of, q1, q2, q3, q4, q5)
    go false q1 false q2 false q3 false q4 false q5 true q6 h q7 i q8 = rw (chars, lead_of, q1, q2, q3, q4, q5, q6)
    go false q1 false q2 false q3 false q4 false q5 false q6 true q7 i q8 = rw (chars, lead_of, q1, q2, q3, q4, q5, q6, q7)
    go false q1 false q2 false q3 false q4 false q5 false q6 false q7 true q8 = rw (chars, lead_of, q1, q2, q3, q4, q5, q6, q7, q8)
    go false q1 false q2 false q3 false q4 false q5 false q6 false q7 false q8 = rw (chars, lead_of, q1, q2, q3, q4, q5, q6, q7, q8) (failed_none y)

step_on : (n lo hi b : ℕ) (y : List ℕ) → chars n lo hi (b ∷ y) ≡ chars_from (step_of (state n lo hi) b) y
unfolding chars step_of
step_on zero lo hi b y = lead_on lo hi b y
step_on (suc n) lo hi b y = go (between lo hi b) refl
  where
    go : (x : Bool) → between lo hi b ≡ x → chars (suc n) lo hi (b ∷ y) ≡ chars_from (step_of (state (suc n) lo hi) b) y
    go true h = rw (chars, step_of, ne_eqb (suc n) 0 (λ z. omega arith), h, sub-one)
    go false h = rw (chars, step_of, ne_eqb (suc n) 0 (λ z. omega arith), h) (failed_none y)

pub step_ran : (u : State) (b : ℕ) (r : State) → r ≡ step_of u b → Ran u (b ∷ []) r
step_ran u b r e = rw e (record { on = λ y. step_on u.more u.low u.high b y })

module _ (u : State) (s : List ℕ) (from i : ℕ) where
  pub ran_on : (v r : State) → from ≤ i → i < length s → Ran u (part from i s) v → r ≡ step_of v (get_or s i 0) → Ran u (part from (i + 1) s) r
  ran_on v r h k w e = rw (part_snoc s from i h k) (ran_append u v r (part from i s) (get_or s i 0 ∷ []) w (step_ran v (get_or s i 0) r e))

same_start : (lo hi : ℕ) (y : List ℕ) → chars 0 lo hi y ≡ chars 0 0 0 y
unfolding chars
same_start lo hi [] = refl
same_start lo hi (b ∷ y) = refl

ascii_on : (lo hi : ℕ) (t y : List ℕ) → all ascii t ≡ true → chars 0 lo hi (t ++ y) ≡ chars 0 0 0 y
unfolding chars
ascii_on lo hi [] y e = same_start lo hi y
ascii_on lo hi (b ∷ t) y e = go (ascii_on 0 0 t y) (ltb b 128) refl
  where
    go : (all ascii t ≡ true → chars 0 0 0 (t ++ y) ≡ chars 0 0 0 y) → (x : Bool) → ltb b 128 ≡ x → chars 0 lo hi (b ∷ (t ++ y)) ≡ chars 0 0 0 y
    go ih true h = rw (chars, h) (ih (rw h at e))
    go ih false h = let z = rw h at e in cc

pub ascii_ran : (u : State) (t : List ℕ) (r : Bool) (v : State) → u.more ≡ 0 → r ≡ all ascii t → r ≡ true → v ≡ start → Ran u t v
ascii_ran u t r v z e q k = rw k (record { on = λ y. rw z (ascii_on u.low u.high t y (sym e ∙ q)) })

-- a choice by tests: by the branches that were taken; r is what a test's function returned
module _ {A : Type 0} (q a b : A) where
  pub pick_true : (t : Bool) → t ≡ true → q ≡ a → q ≡ pick t a b
  pick_true t e h = rw e h

  pub pick_false : (t : Bool) → t ≡ false → q ≡ b → q ≡ pick t a b
  pick_false t e h = rw e h

  pub pick_called : (t r : Bool) → r ≡ t → r ≡ true → q ≡ a → q ≡ pick t a b
  pick_called t r c e h = pick_true t (sym c ∙ e) h

  pub pick_called_not : (t r : Bool) → r ≡ t → r ≡ false → q ≡ b → q ≡ pick t a b
  pick_called_not t r c e h = pick_false t (sym c ∙ e) h

pub ruleset picks = (pick_true, pick_false, pick_called, pick_called_not, lt-ltb, le-ltb, eq-eqb, ne_eqb)
