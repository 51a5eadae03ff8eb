-- Decimal numbers: what is written is read as that number, and what is read without leading zeros is what is written.
use Rattle.std.specs.Prelude.{ℕ, zero, suc, ◌+◌, ◌-◌, ◌*◌, ◌/◌, ◌%◌, ◌<◌, ◌≤◌, Bool, true, false, ◌≡◌, refl, ◌≢◌, List, [], ◌∷◌, ◌++◌, length, eqb, ltb, leb}
use Rattle.std.proofs.Common.{arith, ◌∙◌, sym, append_assoc, append-nil, leb-true, ltb-true, ltb-false, lt-ltb, le-ltb, le-leb, ne_eqb}
use Rattle.std.proofs.lemmas.Bool.{not-true, eqb-false}
use Rattle.spec_format.specs.Bytes.{starts, all, digit, but, number, digits, decimal}
use Rattle.spec_format.specs.Impossible.{impossible}
use Rattle.spec_location.specs.Tests.{and_left, and_right, all_head, all_tail, all_append}

abbrev power : ℕ → ℕ
power zero = 1
power (suc f) = 10 * power f

number_nil : (v : ℕ) → number v [] ≡ v
unfolding number
number_nil v = refl

number_more : (v b : ℕ) (t : List ℕ) → number v (b ∷ t) ≡ number (10 * v + (b - 48)) t
unfolding number
number_more v b t = refl

number_append : (v : ℕ) (s t : List ℕ) → number v (s ++ t) ≡ number (number v s) t
unfolding number
number_append v [] t = refl
number_append v (b ∷ s) t = number_append (10 * v + (b - 48)) s t

number_one : (v d : ℕ) → number v ((48 + d) ∷ []) ≡ 10 * v + d
unfolding number
number_one v d = omega arith

-- ---- one digit, or more

digits_one : (f n : ℕ) → n < 10 → digits (suc f) n ≡ (48 + n) ∷ []
unfolding digits
digits_one f n h = rw (digits, lt-ltb n 10 h)

digits_ten : (f n : ℕ) → 10 ≤ n → digits (suc f) n ≡ digits f (n / 10) ++ (48 + n % 10) ∷ []
unfolding digits
digits_ten f n h = rw (digits, le-ltb n 10 h)

-- what holds of one digit and, with what holds of all but the last, of more holds of all
digits_each :
    (P : ℕ → List ℕ → Type 0) → ((n : ℕ) → n < 10 → P n ((48 + n) ∷ [])) → ((n : ℕ) (x : List ℕ) → 10 ≤ n → P (n / 10) x → P n (x ++ (48 + n % 10) ∷ [])) →
    (f n : ℕ) → n < power (suc f) → P n (digits (suc f) n)
digits_each P p q zero n h = rw (digits_one 0 n (omega arith)) (p n (omega arith))
digits_each P p q (suc f) n h = go (digits_each P p q f (n / 10)) (ltb n 10) refl
  where
    go : (n / 10 < power (suc f) → P (n / 10) (digits (suc f) (n / 10))) → (x : Bool) → ltb n 10 ≡ x → P n (digits (suc (suc f)) n)
    go ih true e = rw (digits_one (suc f) n (ltb-true n 10 e)) (p n (ltb-true n 10 e))
    go ih false e = rw (digits_ten (suc f) n (ltb-false n 10 e)) (q n _ (ltb-false n 10 e) (ih (omega arith)))

-- ---- what is written

fits_ten : (n : ℕ) → n ≤ 4294967295 → n < power 10
fits_ten n h = omega arith

pub decimal_back : (n : ℕ) → n ≤ 4294967295 → number 0 (decimal n) ≡ n
decimal_back n h = digits_each (λ n x. number 0 x ≡ n) one more 9 n (fits_ten n h)
  where
    one : (n : ℕ) → n < 10 → number 0 ((48 + n) ∷ []) ≡ n
    one n l = rw (number_one 0 n) (omega arith)

    more : (n : ℕ) (x : List ℕ) → 10 ≤ n → number 0 x ≡ n / 10 → number 0 (x ++ (48 + n % 10) ∷ []) ≡ n
    more n x l e = rw (number_append 0 x ((48 + n % 10) ∷ []), e, number_one (n / 10) (n % 10)) (omega arith)

pub digit_of : (d : ℕ) → d < 10 → digit (48 + d) ≡ true
digit_of d h = cc (le-leb 48 (48 + d) (omega arith), le-leb (48 + d) 57 (omega arith))

pub decimal_digits : (n : ℕ) → n ≤ 4294967295 → all digit (decimal n) ≡ true
decimal_digits n h = digits_each (λ n x. all digit x ≡ true) (λ n l. cc (digit_of n l)) more 9 n (fits_ten n h)
  where
    more : (n : ℕ) (x : List ℕ) → 10 ≤ n → all digit x ≡ true → all digit (x ++ (48 + n % 10) ∷ []) ≡ true
    more n x l e = all_append digit x ((48 + n % 10) ∷ []) e (cc (digit_of (n % 10) (omega arith)))

-- no leading zero
pub decimal_starts : (n : ℕ) → 1 ≤ n → n ≤ 4294967295 → starts (but 48) (decimal n) ≡ true
decimal_starts n k h = digits_each (λ n x. 1 ≤ n → starts (but 48) x ≡ true) one more 9 n (fits_ten n h) k
  where
    one : (n : ℕ) → n < 10 → 1 ≤ n → but 48 (48 + n) ≡ true
    one n l p = cc (ne_eqb (48 + n) 48 (omega arith))

    more : (n : ℕ) (x : List ℕ) → 10 ≤ n → (1 ≤ n / 10 → starts (but 48) x ≡ true) → 1 ≤ n → starts (but 48) (x ++ (48 + n % 10) ∷ []) ≡ true
    more n [] l e p = impossible (cc (e (omega arith)))
    more n (b ∷ x) l e p = e (omega arith)

-- ---- what is read

-- how many digits are allowed does not matter, where they are enough
digits_enough : (f g n : ℕ) → n < power (suc f) → n < power (suc g) → digits (suc f) n ≡ digits (suc g) n
digits_enough f g n h k = digits_each (λ n x. (g : ℕ) → n < power (suc g) → x ≡ digits (suc g) n) (λ n l g k. sym (digits_one g n l)) more f n h g k
  where
    more : (n : ℕ) (x : List ℕ) → 10 ≤ n → ((g : ℕ) → n / 10 < power (suc g) → x ≡ digits (suc g) (n / 10)) → (g : ℕ) → n < power (suc g) → x ++ (48 + n % 10) ∷ [] ≡ digits (suc g) n
    more n x l e zero k = absurd (omega arith)
    more n x l e (suc g) k = rw (digits_ten (suc g) n l, e g (omega arith))

record Digit (b : ℕ) : Type 0 where
  low : 48 ≤ b
  high : b ≤ 57

digit_is : (b : ℕ) → digit b ≡ true → Digit b
digit_is b h = record { low = leb-true 48 b (and_left (leb 48 b) _ h); high = leb-true b 57 (and_right (leb 48 b) _ h) }

-- v, and then the digits t
digits_more : (f v : ℕ) (t : List ℕ) → 1 ≤ v → v < power f → all digit t ≡ true → digits (f + length t) (number v t) ≡ digits f v ++ t
digits_more f v [] p h k =
    let e : f + 0 ≡ f = omega arith in
    rw (e, number_nil v, append-nil (digits f v))
digits_more f v (b ∷ t) p h k =
    let d : Digit b = digit_is b (all_head digit b t k) in
    let low : 48 ≤ b = d.low in
    let high : b ≤ 57 = d.high in
    let w : ℕ = 10 * v + (b - 48) in
    let e₁ : f + suc (length t) ≡ suc f + length t = omega arith in
    let e₂ : w / 10 ≡ v = omega arith in
    let e₃ : 48 + w % 10 ≡ b = omega arith in
    rw (e₁, number_more v b t, digits_more (suc f) w t (omega arith) (omega arith) (all_tail digit b t k), digits_ten f w (omega arith), e₂, e₃)
    (append_assoc (digits f v) (b ∷ []) t)

number_least : (v : ℕ) (t : List ℕ) → 1 ≤ v → 1 ≤ number v t
number_least v [] h = rw (number_nil v) h
number_least v (b ∷ t) h = rw (number_more v b t) (number_least (10 * v + (b - 48)) t (omega arith))

number_below : (f v : ℕ) (t : List ℕ) → v < power f → all digit t ≡ true → number v t < power (f + length t)
number_below f v [] h k =
    let e : f + 0 ≡ f = omega arith in
    rw (e, number_nil v) h
number_below f v (b ∷ t) h k =
    let d : Digit b = digit_is b (all_head digit b t k) in
    let high : b ≤ 57 = d.high in
    let e : f + suc (length t) ≡ suc f + length t = omega arith in
    rw (e, number_more v b t) (number_below (suc f) (10 * v + (b - 48)) t (omega arith) (all_tail digit b t k))

module _ (b : ℕ) (t : List ℕ) (k : all digit (b ∷ t) ≡ true) (z : but 48 b ≡ true) where
  lead : (1 ≤ b - 48) × (b - 48 < 10)
  lead =
      let d : Digit b = digit_is b (all_head digit b t k) in
      let n : b ≢ 48 = eqb-false b 48 (not-true (eqb b 48) z) in
      (omega arith, omega arith)

  number_lead : number 0 (b ∷ t) ≡ number (b - 48) t
  number_lead =
      let e : 10 * 0 + (b - 48) ≡ b - 48 = omega arith in
      rw (number_more 0 b t, e)

  lead_back : number 0 (b ∷ t) ≤ 4294967295 → decimal (number 0 (b ∷ t)) ≡ b ∷ t
  lead_back h =
      let l = lead in
      let d : Digit b = digit_is b (all_head digit b t k) in
      let u : number (b - 48) t < power (1 + length t) = number_below 1 (b - 48) t l.1 (all_tail digit b t k) in
      let v : 1 + length t ≡ suc (length t) = omega arith in
      let w : 48 + (b - 48) ≡ b = omega arith in
      digits_enough 9 (length t) (number 0 (b ∷ t)) (fits_ten (number 0 (b ∷ t)) h) (rw (number_lead) (rw v at u)) ∙
      (rw number_lead (rw (← v) (digits_more 1 (b - 48) t l.0 l.1 (all_tail digit b t k) ∙ rw (digits_one 0 (b - 48) l.1, w))))

-- digits without a leading zero are written as they were read
pub written_back : (ds : List ℕ) → all digit ds ≡ true → starts (but 48) ds ≡ true → number 0 ds ≤ 4294967295 → decimal (number 0 ds) ≡ ds
written_back [] k z h = impossible cc
written_back (b ∷ t) k z h = lead_back b t k z h

pub written_least : (ds : List ℕ) → all digit ds ≡ true → starts (but 48) ds ≡ true → 1 ≤ number 0 ds
written_least [] k z = impossible cc
written_least (b ∷ t) k z = rw (number_lead b t k z) (number_least (b - 48) t (lead b t k z).0)
