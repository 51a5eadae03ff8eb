-- The number of bases, a date and its parts: each way by which the code answers is the definition's.
use Rattle.std.specs.Prelude.{Option, Some, None}
use Prim.Native.Nat.{ℕ, zero, suc, ◌+◌, ◌-◌, ◌≤◌, ◌<◌, ◌^◌}
use mathlib.Core.Path.{◌≡◌, refl, sym, ◌∙◌}
use mathlib.Core.Bool.{Bool, true, false, and-false}
use mathlib.Core.List.{List, [], ◌∷◌}
use native.Mathlib.Nat.{add-zero, pow-le-pow_right}
use native.Mathlib.Omega.{arith}
use borrow.Author.Tests.{ne_eqb, eq-eqb, le-leb, lt-leb}
use lib.Dec.{eqb, lit<}
use lib.ListN.{length, get_or, take, drop, length-drop}
use lib.Seq.{length-take-le, get_or-drop, drop-drop, take_all}
use Rattle.spec_format.specs.Bytes.{pick, all, some, digit, number}
use Rattle.spec_format.specs.Dates.{made, months}
use Rattle.spec_format.specs.Locus.{place_in, date_of, date_token}
use Rattle.read_locus_tokens.specs.Parts.{Valued, bases_of, date_of_parts}
use Rattle.read_locus_tokens.specs.declared.Decimal.{Decimal}
use Rattle.read_locus_tokens.specs.declared.Decimal.TheVariants as decimal
use Rattle.spec_format.specs.declared.Date.{Date}
use Rattle.spec_format.specs.Impossible.{impossible}

module _ (t : List ℕ) (r : Decimal) (v : Valued t r) where
  pub not_digits : r ≡ decimal.Not → all digit t ≡ false
  not_digits e = go (all digit t) (sym v.is ∙ e)
    where
      go : (x : Bool) → pick x (decimal.Value (number 0 t)) decimal.Not ≡ decimal.Not → x ≡ false
      go true f = impossible cc
      go false f = refl

  pub all_digits : (n : ℕ) → r ≡ decimal.Value n → all digit t ≡ true
  all_digits n e = go (all digit t) (sym v.is ∙ e)
    where
      go : (x : Bool) → pick x (decimal.Value (number 0 t)) decimal.Not ≡ decimal.Value n → x ≡ true
      go true f = refl
      go false f = impossible cc

  pub the_number : (n : ℕ) → r ≡ decimal.Value n → n ≡ number 0 t
  the_number n e = go (sym (sym v.is ∙ e) ∙ rw (all_digits n e))
    where
      go : decimal.Value n ≡ decimal.Value (number 0 t) → n ≡ number 0 t
      go f = cc

  pub value_below : (n k : ℕ) → r ≡ decimal.Value n → length t ≤ k → n < 10 ^ k
  value_below n k e h =
      let b : n < 10 ^ length t = rw e at v.small in
      let p : 10 ^ length t ≤ 10 ^ k = pow-le-pow_right (lit< tt) {i = length t} {j = k} h in omega (arith, p)

  pub bases_not : r ≡ decimal.Not → None ≡ bases_of t
  bases_not e = rw (not_digits e)

  pub bases_much : (n : ℕ) → r ≡ decimal.Value n → length t ≤ 10 → 4294967295 < n → None ≡ bases_of t
  bases_much n e l h = rw (all_digits n e, ← the_number n e, le-leb _ _ l, lt-leb _ _ h)

  pub bases_some : (n : ℕ) → r ≡ decimal.Value n → length t ≤ 10 → n ≤ 4294967295 → Some n ≡ bases_of t
  bases_some n e l h = rw (all_digits n e, ← the_number n e, le-leb _ _ l, le-leb _ _ h)

pub bases_long : (t : List ℕ) → 10 < length t → None ≡ bases_of t
bases_long t h = rw (lt-leb _ _ h, and-false (all digit t))

module _ (d m y : List ℕ) (rd ry : Decimal) (vd : Valued d rd) where
  pub date_no_day : rd ≡ decimal.Not → None ≡ date_of_parts d m y
  date_no_day e = rw (not_digits d rd vd e)

  pub date_no_year : Valued y ry → ry ≡ decimal.Not → None ≡ date_of_parts d m y
  date_no_year vy e = rw (not_digits y ry vy e, and-false (all digit d))

  pub date_made : Valued y ry → (n k p : ℕ) (q : Option Date) → rd ≡ decimal.Value n → ry ≡ decimal.Value k → p ≡ place_in m months → q ≡ made n p k → q ≡ date_of_parts d m y
  date_made vy n k p q en ek ep eq =
      eq ∙ rw (all_digits d rd vd n en, all_digits y ry vy k ek, ← the_number d rd vd n en, ← the_number y ry vy k ek, ← ep)

some_take : (n : ℕ) (t : List ℕ) → 0 < n → 0 < length t → some (take n t) ≡ true
some_take zero t h k = absurd (omega arith)
some_take (suc n) [] h k = absurd (omega arith)
some_take (suc n) (b ∷ t) h k = refl

module _ (t : List ℕ) where
  pub date_short : length t < 10 → None ≡ date_token t
  unfolding date_token date_of
  date_short h = let z : length t - 9 ≡ 0 = omega arith in rw z

  pub date_long : 11 < length t → None ≡ date_token t
  unfolding date_token date_of
  date_long h =
      let z : length (take (length t - 9) t) ≡ length t - 9 = length-take-le (length t - 9) t (omega arith) in
      let w : 2 < length t - 9 = omega arith in
      rw (z, lt-leb _ _ w)

  first_dash : (n : ℕ) → eqb (get_or (drop n t) 0 0) 45 ≡ eqb (get_or t n 0) 45
  first_dash n = rw (get_or-drop n t 0 0, add-zero n)

  pub date_dash : (get_or t (length t - 9) 0 ≡ 45 → ⊥) → None ≡ date_token t
  unfolding date_token date_of
  date_dash h = let e : eqb (get_or (drop (length t - 9) t) 0 0) 45 ≡ false = first_dash _ ∙ ne_eqb _ _ h in simp (e, and-false)

  pub date_dashes : (get_or t (length t - 9 + 4) 0 ≡ 45 → ⊥) → None ≡ date_token t
  unfolding date_token date_of
  date_dashes h =
      let e : eqb (get_or (drop (length t - 9) t) 4 0) 45 ≡ false = rw (get_or-drop (length t - 9) t 4 0) (ne_eqb _ _ h) in simp (e, and-false)

  year_all : (n : ℕ) → take (length t - (n + 5)) (drop (n + 5) t) ≡ drop 5 (drop n t)
  year_all n = rw (drop-drop 5 n t) (take_all (length t - (n + 5)) (drop (n + 5) t) (rw (length-drop (n + 5) t) (omega arith)))

  pub date_parts : (q : Option Date) → 10 ≤ length t → length t ≤ 11 → get_or t (length t - 9) 0 ≡ 45 → get_or t (length t - 9 + 4) 0 ≡ 45 →
      q ≡ date_of_parts (take (length t - 9) t) (take (length t - 9 + 4 - (length t - 9 + 1)) (drop (length t - 9 + 1) t)) (take (length t - (length t - 9 + 5)) (drop (length t - 9 + 5) t)) →
      q ≡ date_token t
  unfolding date_token date_of
  date_parts q h k a b e =
      let l : length (take (length t - 9) t) ≡ length t - 9 = length-take-le (length t - 9) t (omega arith) in
      let two : length t - 9 ≤ 2 = omega arith in
      let one : some (take (length t - 9) t) ≡ true = some_take (length t - 9) t (omega arith) (omega arith) in
      let x : eqb (get_or (drop (length t - 9) t) 0 0) 45 ≡ true = first_dash _ ∙ eq-eqb _ _ a in
      let y : eqb (get_or (drop (length t - 9) t) 4 0) 45 ≡ true = rw (get_or-drop (length t - 9) t 4 0) (eq-eqb _ _ b) in
      let three : length t - 9 + 4 - (length t - 9 + 1) ≡ 3 = omega arith in
      e ∙ rw (year_all (length t - 9), three, ← (drop-drop 1 (length t - 9) t), l, le-leb _ _ two, one, x, y)
