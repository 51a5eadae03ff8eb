-- A number in columns, as a whole line writes it: each column is the last digit of what is left to its right hand cut off.
use Rattle.std.specs.Prelude.{◌≡◌, refl, ℕ, suc, zero, ◌+◌, ◌-◌, ◌/◌, ◌%◌, ◌^◌, ◌≤◌, ◌<◌, Bool, true, false, List, [], ◌∷◌, ◌++◌, eqb, ltb, length}
use Rattle.std.proofs.Common.{sym, ap, arith, pow-suc, div-lt_iff_lt-mul, append_assoc, length-append, ne_eqb, ltb-true, ltb-false}
use Rattle.spec_format.specs.Bytes.{pick, spaces, digits, decimal}
use Rattle.spec_format.specs.Write.{right_aligned}
use Rattle.write_decimal.specs.Decimal.{digits_one, digits_more}

abbrev pub column : ℕ → ℕ
column m = pick (eqb m 0) 32 (48 + m % 10)

-- k columns of n
abbrev columns : ℕ → ℕ → List ℕ
columns zero n = []
columns (suc k) n = columns k (n / 10) ++ column n ∷ []

spaces_more : (k : ℕ) → spaces k ++ 32 ∷ [] ≡ 32 ∷ spaces k
spaces_more zero = refl
spaces_more (suc k) = ap (λ (l : List ℕ). 32 ∷ l) (spaces_more k)

columns_zero : (k : ℕ) → columns k 0 ≡ spaces k
columns_zero zero = refl
columns_zero (suc k) = rw (columns_zero k) (spaces_more k)

column_digit : (n : ℕ) → 1 ≤ n → column n ≡ 48 + n % 10
column_digit n h = rw (ne_eqb n 0 (λ e. omega arith))

columns_are : (k f n : ℕ) → 1 ≤ n → n < 10 ^ k → k ≤ f → right_aligned k (digits f n) ≡ columns k n
columns_are zero f n a b h = absurd (omega arith)
columns_are (suc k) zero n a b h = absurd (omega arith)
columns_are (suc k) (suc f) n a b h = go (λ p q. columns_are k f (n / 10) p q (omega arith)) (ltb n 10) refl
  where
    go : (1 ≤ n / 10 → n / 10 < 10 ^ k → right_aligned k (digits f (n / 10)) ≡ columns k (n / 10)) → (x : Bool) → ltb n 10 ≡ x
        → right_aligned (suc k) (digits (suc f) n) ≡ columns (suc k) n
    go rest true e =
        let l : n < 10 = ltb-true n 10 e in
        let z : n / 10 ≡ 0 = omega arith in
        let m : n % 10 ≡ n = omega arith in
        let s : suc k - 1 ≡ k = omega arith in
        rw (digits_one f n l, column_digit n a, z, m, columns_zero k, s)
    go rest false e =
        let l : 10 ≤ n = ltb-false n 10 e in
        let d = digits f (n / 10) in
        let s : suc k - length (d ++ (48 + n % 10) ∷ []) ≡ k - length d = omega (arith, length-append d ((48 + n % 10) ∷ [])) in
        rw (digits_more f n l, column_digit n a, s, ← (rest (omega arith) ((div-lt_iff_lt-mul {k = 10} (omega arith)).1 (rw pow-suc at b)))) (simp append_assoc)

nine_columns : (n : ℕ) → 1 ≤ n → n < 1000000000 → right_aligned 9 (decimal n) ≡ columns 9 n
nine_columns n a b = columns_are 9 10 n a b (omega arith)

-- what a whole line's number is
pub number_is : (n : ℕ) → 1 ≤ n → n < 100000000
    → 10 ∷ 32 ∷ column (n / 10 / 10 / 10 / 10 / 10 / 10 / 10) ∷ column (n / 10 / 10 / 10 / 10 / 10 / 10) ∷ column (n / 10 / 10 / 10 / 10 / 10)
    ∷ column (n / 10 / 10 / 10 / 10) ∷ column (n / 10 / 10 / 10) ∷ column (n / 10 / 10) ∷ column (n / 10) ∷ column n ∷ []
    ≡ 10 ∷ [] ++ right_aligned 9 (decimal n)
number_is n a b =
    let z : n / 10 / 10 / 10 / 10 / 10 / 10 / 10 / 10 ≡ 0 = omega arith in
    rw (nine_columns n a (omega arith), z)

pub number_length : (n : ℕ) → 1 ≤ n → n < 100000000 → length (10 ∷ [] ++ right_aligned 9 (decimal n)) ≡ 10
number_length n a b = sym (ap length (number_is n a b))

pub nine_length : (n : ℕ) → 1 ≤ n → n < 1000000000 → length (right_aligned 9 (decimal n)) ≡ 9
nine_length n a b = rw (nine_columns n a b)
