-- Lengths of numbers and dates as they are written.
use Rattle.std.specs.Prelude.{ℕ, zero, suc, ◌-◌, ◌*◌, ◌/◌, ◌≤◌, ◌<◌, Bool, true, false, ◌≡◌, refl, List, [], ◌∷◌, length, get_or, eqb, ltb, Option, Some, None}
use Rattle.std.proofs.Common.{not-suc-le-zero, arith, length-append, eqb-true, ltb-false, lt-ltb}
use Rattle.spec_format.specs.Bytes.{pick, all, digits, decimal}
use Rattle.spec_format.specs.Dates.{months, month_name, date_text, printed_date, made, is_date}
use Rattle.spec_format.specs.declared.Date.{Date}
use Rattle.spec_format.specs.Table.{Table}
use Rattle.spec_format.specs.Write.{length_or, length_text}
use Rattle.spec_format.specs.WellFormed.{date_fine}
use Rattle.spec_columns.specs.Tests.{and_left, and_right}

-- ---- numbers

-- decimal digits are no more than were asked for
digits_most : (f n : ℕ) → length (digits f n) ≤ f
unfolding digits
digits_most zero n = omega arith
digits_most (suc f) n = go (digits_most f (n / 10)) (ltb n 10) refl
  where
    go : length (digits f (n / 10)) ≤ f → (x : Bool) → ltb n 10 ≡ x → length (digits (suc f) n) ≤ suc f
    go ih true p = rw (digits, p) (omega arith)
    go ih false p = rw (digits, p) (simp length-append (omega arith))

-- so the count in LOCUS has ten at most
pub count_most : (t : Table) → length (length_text t) ≤ 10
unfolding length_text
count_most t = digits_most 10 (length_or t.locus.length (length t.letters))

-- ten times as many numbers take a digit more
step :
    (f k c : ℕ) → ((m : ℕ) → m < c → length (digits f m) ≤ k) → (n : ℕ) → n < 10 * c → length (digits (suc f) n) ≤ suc k
unfolding digits
step f k c ih n h = go (ltb n 10) refl
  where
    go : (x : Bool) → ltb n 10 ≡ x → length (digits (suc f) n) ≤ suc k
    go true p = rw (digits, p) (omega arith)
    go false p = rw (digits, p) (simp length-append (omega (arith, ih (n / 10) (omega arith))))

few : (f n : ℕ) → n < 10 → length (digits (suc f) n) ≤ 1
unfolding digits
few f n h = rw (digits, lt-ltb n 10 h) (omega arith)

-- a number below 1,000,000,000 has at most nine digits
pub nine_digits : (n : ℕ) → n < 1000000000 → length (decimal n) ≤ 9
nine_digits =
    step 9 8 100000000
    (step 8 7 10000000 (step 7 6 1000000 (step 6 5 100000 (step 5 4 10000 (step 4 3 1000 (step 3 2 100 (step 2 1 10 (few 1))))))))

-- ---- dates

each_passes : (p : List ℕ → Bool) (l : List (List ℕ)) (k : ℕ) → all p l ≡ true → k < length l → p (get_or l k []) ≡ true
each_passes p [] k a h = absurd (not-suc-le-zero h)
each_passes p (w ∷ l) zero a h = and_left (p w) (all p l) a
each_passes p (w ∷ l) (suc k) a h = each_passes p l k (and_right (p w) (all p l) a) (omega arith)

month_length : (m : ℕ) → 0 < m → m ≤ 12 → length (month_name m) ≡ 3
unfolding month_name
month_length m h g = eqb-true (length (month_name m)) 3 (each_passes (λ w. eqb (length w) 3) months (m - 1) refl (omega arith))

-- the month of a date in its range
month_is : (d m y : ℕ) → is_date (made d m y) ≡ true → (0 < m) × (m ≤ 12)
month_is d m y e = go (ltb d 1) (ltb 31 d) (ltb m 1) refl (ltb 12 m) refl e
  where
    go :
        (a b x : Bool) → ltb m 1 ≡ x → (z : Bool) → ltb 12 m ≡ z →
        is_date (pick a None (pick b None (pick x None (pick z None (pick (ltb 9999 y) None (Some (record { day = d; month = m; year = y }))))))) ≡ true →
        (0 < m) × (m ≤ 12)
    go false false false p false q e = (omega (arith, ltb-false m 1 p), ltb-false 12 m q)
    go true b x p z q e = let f : ◌≡◌ {A = ℕ} 0 1 = cc in absurd (omega arith)
    go false true x p z q e = let f : ◌≡◌ {A = ℕ} 0 1 = cc in absurd (omega arith)
    go false false true p z q e = let f : ◌≡◌ {A = ℕ} 0 1 = cc in absurd (omega arith)
    go false false false p true q e = let f : ◌≡◌ {A = ℕ} 0 1 = cc in absurd (omega arith)

text_length_lem : (d : Date) → length (month_name d.month) ≡ 3 → length (date_text d) ≡ 11
unfolding date_text
text_length_lem d h = simp length-append (rw h)

-- a date in its range, or the one printed where there is none, has eleven bytes
pub date_length : (d : Option Date) → date_fine d ≡ true → length (date_text (printed_date d)) ≡ 11
unfolding date_text month_name
date_length None e = refl
date_length (Some d) e = let m = month_is d.day d.month d.year e in text_length_lem d (month_length d.month m.0 m.1)
