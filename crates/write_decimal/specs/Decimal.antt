-- The digits of a number: the last one after the others, and how many they are.
use Rattle.std.specs.Prelude.{◌≡◌, refl, ℕ, suc, zero, ◌+◌, ◌-◌, ◌/◌, ◌%◌, ◌^◌, ◌≤◌, ◌<◌, Bool, true, false, List, [], ◌∷◌, ◌++◌, ltb, length, replicate}
use Rattle.std.proofs.Common.{sym, ◌∙◌, lt-ltb, le-ltb, ltb-true, ltb-false, pow-suc, div-lt_iff_lt-mul, arith, length-append}
use Rattle.std.proofs.lemmas.List.{length-replicate}
use Rattle.spec_format.specs.Bytes.{digits, decimal}
use Rattle.spec_format.specs.Write.{right_aligned}

pub digits_one : (f n : ℕ) → n < 10 → digits (suc f) n ≡ (48 + n) ∷ []
unfolding digits
digits_one f n h = rw (lt-ltb n 10 h, digits)

pub digits_more : (f n : ℕ) → 10 ≤ n → digits (suc f) n ≡ digits f (n / 10) ++ ((48 + n % 10) ∷ [])
unfolding digits
digits_more f n h = rw (le-ltb n 10 h, digits)

-- more digits than a number has change nothing
enough_by : (f n : ℕ) (b : Bool) → ltb n 10 ≡ b → (10 ≤ n → digits (suc f) (n / 10) ≡ digits f (n / 10)) → digits (suc (suc f)) n ≡ digits (suc f) n
enough_by f n true e h = digits_one (suc f) n (ltb-true n 10 e) ∙ sym (digits_one f n (ltb-true n 10 e))
enough_by f n false e h = let l : 10 ≤ n = ltb-false n 10 e in rw (digits_more (suc f) n l, digits_more f n l, h l)

digits_enough : (f n : ℕ) → n < 10 ^ suc f → digits (suc (suc f)) n ≡ digits (suc f) n
digits_enough zero n h = enough_by 0 n (ltb n 10) refl (λ l. absurd (omega arith))
digits_enough (suc f) n h =
    enough_by (suc f) n (ltb n 10) refl (λ l. digits_enough f (n / 10) ((div-lt_iff_lt-mul {k = 10} (omega arith)).1 (rw pow-suc at h)))

pub decimal_one : (n : ℕ) → n < 10 → decimal n ≡ (48 + n % 10) ∷ []
decimal_one n h = let e : n % 10 ≡ n = omega arith in rw e (digits_one 9 n h)

pub decimal_more : (n : ℕ) → 10 ≤ n → n < 2 ^ 32 → decimal n ≡ decimal (n / 10) ++ (48 + n % 10) ∷ []
decimal_more n h m = rw (digits_enough 8 (n / 10) (omega arith)) (digits_more 9 n h)

length_by : (f n : ℕ) (b : Bool) (x : List ℕ) → length x ≤ f → length {A = ℕ} (elim b [ true ↦ (48 + n) ∷ [] | false ↦ x ++ ((48 + n % 10) ∷ []) ]) ≤ suc f
length_by f n true x h = omega arith
length_by f n false x h = omega (arith, length-append x ((48 + n % 10) ∷ []))

pub length_digits : (f n : ℕ) → length (digits f n) ≤ f
unfolding digits
length_digits zero n = omega arith
length_digits (suc f) n = length_by f n (ltb n 10) (digits f (n / 10)) (length_digits f (n / 10))

pub length_decimal : (n : ℕ) → length (decimal n) ≤ 10
length_decimal n = length_digits 10 n

pub length_nine : (n : ℕ) → length (right_aligned 9 (decimal n)) ≤ 19
length_nine n =
    omega (arith, length-append (replicate (9 - length (decimal n)) 32) (decimal n), length-replicate {A = ℕ} (9 - length (decimal n)) 32, length_decimal n)
