-- How long decimal numbers are and that they are digits; and dates.
use Rattle.std.specs.Prelude.{ℕ, zero, suc, ◌+◌, ◌/◌, ◌%◌, ◌<◌, ◌≤◌, Bool, true, false, ◌&&◌, ◌≡◌, refl, List, [], ◌∷◌, ◌++◌, length, eqb, ltb, Some}
use Rattle.std.proofs.Common.{arith, ap, ◌∙◌, length-append, eqb-true, ltb-true, ltb-false, le-ltb, le-leb}
use Rattle.std.proofs.lemmas.Bool.{eqb-false}
use Rattle.spec_format.specs.Bytes.{some, all, visible, digit, number, digits}
use Rattle.spec_format.specs.Dates.{made, is_date, months, month_name, date_text}
use Rattle.spec_format.specs.Locus.{place_in, date_of, date_token}
use Rattle.spec_format.specs.declared.Date.{Date}
use Rattle.spec_texts_back.specs.Tests.{and_left, and_right, all_append}
use Rattle.spec_location.specs.Decimals.{digit_of}
use Rattle.spec_format.specs.Impossible.{impossible}

pub all_digits : (f n : ℕ) → all digit (digits f n) ≡ true
unfolding digits
all_digits zero n = refl
all_digits (suc f) n = go (all_digits f (n / 10)) (ltb n 10) refl
  where
    go : all digit (digits f (n / 10)) ≡ true → (x : Bool) → ltb n 10 ≡ x → all digit (digits (suc f) n) ≡ true
    go ih true p = cc (digit_of n (ltb-true n 10 p))
    go ih false p = cc (all_append digit (digits f (n / 10)) ((48 + n % 10) ∷ []) ih (cc (digit_of (n % 10) (omega arith))))

some_last : (s : List ℕ) (b : ℕ) → some (s ++ b ∷ []) ≡ true
some_last [] b = refl
some_last (c ∷ s) b = refl

pub some_digits : (f n : ℕ) → some (digits (suc f) n) ≡ true
unfolding digits
some_digits f n = go (ltb n 10) refl
  where
    go : (x : Bool) → ltb n 10 ≡ x → some (digits (suc f) n) ≡ true
    go true p = cc
    go false p = cc (some_last (digits f (n / 10)) (48 + n % 10))

pub length_digits : (f n : ℕ) → length (digits f n) ≤ f
unfolding digits
length_digits zero n = omega arith
length_digits (suc f) n = go (length_digits f (n / 10)) (ltb n 10) refl
  where
    go : length (digits f (n / 10)) ≤ f → (x : Bool) → ltb n 10 ≡ x → length (digits (suc f) n) ≤ suc f
    go ih true p = let e : digits (suc f) n ≡ (48 + n) ∷ [] = cc in rw e (omega arith)
    go ih false p =
        let e : digits (suc f) n ≡ digits f (n / 10) ++ (48 + n % 10) ∷ [] = cc in
        rw (e, length-append) (omega arith)

-- ---- the twelve months, tested one by one

month_test : ℕ → Bool
month_test m = eqb (place_in (month_name m) months) m && (eqb (length (month_name m)) 3 && all visible (month_name m))

up_to : (ℕ → Bool) → ℕ → Bool
up_to p zero = true
up_to p (suc n) = p (suc n) && up_to p n

up_to_lem : (p : ℕ → Bool) (n m : ℕ) → up_to p n ≡ true → 0 < m → m ≤ n → p m ≡ true
unfolding up_to
up_to_lem p zero m h a b = absurd (omega arith)
up_to_lem p (suc n) m h a b = go (λ c. up_to_lem p n m (and_right (p (suc n)) _ h) a c) (eqb m (suc n)) refl
  where
    go : (m ≤ n → p m ≡ true) → (x : Bool) → eqb m (suc n) ≡ x → p m ≡ true
    go ih true e = rw (eqb-true m (suc n) e) (and_left (p (suc n)) _ h)
    go ih false e = ih (omega (arith, eqb-false m (suc n) e))

record Month (m : ℕ) : Type 0 where
  place : place_in (month_name m) months ≡ m
  three : length (month_name m) ≡ 3
  seen : all visible (month_name m) ≡ true

month : (m : ℕ) → 0 < m → m ≤ 12 → Month m
unfolding up_to month_test month_name
month m a b =
    let h : month_test m ≡ true = up_to_lem month_test 12 m refl a b in
    let k = and_right (eqb (place_in (month_name m) months) m) _ h in
    record {
      place = eqb-true _ m (and_left (eqb (place_in (month_name m) months) m) _ h);
      three = eqb-true _ 3 (and_left (eqb (length (month_name m)) 3) _ k);
      seen = and_right (eqb (length (month_name m)) 3) _ k;
    }

-- ---- dates

record InRange (d m y : ℕ) : Type 0 where
  day₁ : 0 < d
  day₂ : d ≤ 31
  month₁ : 0 < m
  month₂ : m ≤ 12
  year : y ≤ 9999

in-range : (d m y : ℕ) → is_date (made d m y) ≡ true → InRange d m y
in-range d m y h = go (ltb d 1) refl (ltb 31 d) refl (ltb m 1) refl (ltb 12 m) refl (ltb 9999 y) refl
  where
    go :
        (a : Bool) → ltb d 1 ≡ a → (b : Bool) → ltb 31 d ≡ b → (c : Bool) → ltb m 1 ≡ c → (e : Bool) → ltb 12 m ≡ e → (f : Bool) →
        ltb 9999 y ≡ f → InRange d m y
    go true p b q c r e s f t = impossible cc
    go false p true q c r e s f t = impossible cc
    go false p false q true r e s f t = impossible cc
    go false p false q false r true s f t = impossible cc
    go false p false q false r false s true t = impossible cc
    go false p false q false r false s false t =
        record {
          day₁ = omega (arith, ltb-false d 1 p);
          day₂ = omega (arith, ltb-false 31 d q);
          month₁ = omega (arith, ltb-false m 1 r);
          month₂ = omega (arith, ltb-false 12 m s);
          year = omega (arith, ltb-false 9999 y t);
        }

made_back : (d m y : ℕ) → InRange d m y → made d m y ≡ Some (record { day = d; month = m; year = y })
made_back d m y r =
    cc
    (le-ltb d 1 r.day₁, le-ltb 31 d r.day₂, le-ltb m 1 r.month₁, le-ltb 12 m r.month₂, le-ltb 9999 y r.year)

two : (d : ℕ) → number 0 ((48 + d / 10) ∷ (48 + d % 10) ∷ []) ≡ d
unfolding number
two d = omega arith

four : (y : ℕ) → y ≤ 9999 → number 0 ((48 + y / 10 / 10 / 10) ∷ (48 + y / 10 / 10 % 10) ∷ (48 + y / 10 % 10) ∷ (48 + y % 10) ∷ []) ≡ y
unfolding number
four y h = omega arith

date_shape :
    (d m y a b c : ℕ) → InRange d m y → place_in (a ∷ b ∷ c ∷ []) months ≡ m →
    date_token
    ((48 + d / 10) ∷ (48 + d % 10) ∷ 45 ∷ a ∷ b ∷ c ∷ 45 ∷ (48 + y / 10 / 10 / 10) ∷ (48 + y / 10 / 10 % 10) ∷ (48 + y / 10 % 10) ∷ (48 + y % 10) ∷
    []) ≡
    made d m y
unfolding date_token date_of
date_shape d m y a b c r e =
    let q : d ≤ 31 = r.day₂ in
    let p : y ≤ 9999 = r.year in
    cc (
      two d,
      four y p,
      digit_of (d / 10) (omega arith),
      digit_of (d % 10) (omega arith),
      digit_of (y / 10 / 10 / 10) (omega arith),
      digit_of (y / 10 / 10 % 10) (omega arith),
      digit_of (y / 10 % 10) (omega arith),
      digit_of (y % 10) (omega arith),
    )

digit_seen : (x : ℕ) → x < 10 → visible (48 + x) ≡ true
digit_seen x h = cc (le-leb 33 (48 + x) (omega arith), le-leb (48 + x) 126 (omega arith))

-- what a date prints as is read as that date, and is one token
pub record DateBack (d : Date) : Type 0 where
  pub read : date_token (date_text d) ≡ Some d
  pub seen : all visible (date_text d) ≡ true

pub date_back : (d : Date) → is_date (made d.day d.month d.year) ≡ true → DateBack d
unfolding date_text
date_back d h = go (month_name d.month) refl
  where
    r : InRange d.day d.month d.year
    r = in-range d.day d.month d.year h

    m : Month d.month
    m = month d.month r.month₁ r.month₂

    go : (w : List ℕ) → month_name d.month ≡ w → DateBack d
    go [] e = absurd (omega (arith, ap length e, m.three))
    go (a ∷ []) e = absurd (omega (arith, ap length e, m.three))
    go (a ∷ b ∷ []) e = absurd (omega (arith, ap length e, m.three))
    go (a ∷ b ∷ c ∷ x ∷ w) e = absurd (omega (arith, ap length e, m.three))
    go (a ∷ b ∷ c ∷ []) e =
        let l : d.day ≤ 31 = r.day₂ in
        let k : d.year ≤ 9999 = r.year in
        let s : all visible (a ∷ b ∷ c ∷ []) ≡ true = rw e at m.seen in
        record {
          read = rw e (date_shape d.day d.month d.year a b c r (rw e at m.place) ∙ made_back d.day d.month d.year r);
          seen =
              rw e
              (cc (
                digit_seen (d.day / 10) (omega arith),
                digit_seen (d.day % 10) (omega arith),
                digit_seen (d.year / 10 / 10 / 10) (omega arith),
                digit_seen (d.year / 10 / 10 % 10) (omega arith),
                digit_seen (d.year / 10 % 10) (omega arith),
                digit_seen (d.year % 10) (omega arith),
              ));
        }
