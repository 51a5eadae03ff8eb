-- Steps of tests: two in a row, rows one after the other, features one after the other.
use Prim.Native.Nat.{ℕ, zero, suc, ◌+◌, ◌-◌, ◌*◌, ◌≤◌, ◌<◌}
use Rattle.std.specs.Prelude.{◌≡◌, refl, Bool, ◌&&◌, get_or, eqb, leb, Option, Some, None}
use Rattle.std.specs.List.{list_all, range_with_len}
use Rattle.std.proofs.Math.Path.{sym}
use Rattle.std.proofs.Common.{◌∙◌, lt_of_not-le}
use Rattle.std.proofs.Math.Bool.{true, false}
use Rattle.std.proofs.lemmas.Bool.{false≢true}
use native.Mathlib.Omega.{arith}
use Rattle.std.proofs.Math.Decide.{dec_le}
use borrow.Author.Tests.{leb-true}
use Rattle.spec_format.specs.Rooms.{Rooms, text_in, rows_fine, span_fine, row_text_fine, location_fine, qualifier_row_fine, qualifiers_fine, feature_row_fine, features_fine}
use Rattle.judge_rooms.specs.Parts.{feature_next, feature_rooms}

pub and_left : (x y : Bool) → (x && y) ≡ true → x ≡ true
and_left true y h = refl
and_left false y h = h

pub and_right : (x y : Bool) → (x && y) ≡ true → y ≡ true
and_right true y h = h
and_right false y h = absurd (false≢true h)

-- a test of two parts, made of the tests of each
pub both_is : (a b x y r : Bool) → r ≡ (a && b) → a ≡ x → b ≡ y → r ≡ (x && y)
both_is a b x y r h p q = h ∙ rw (p, q)

pub span_within : (room s n : ℕ) → span_fine room s n ≡ true → s + n ≤ room
span_within room s n h =
    let l : s ≤ room = leb-true _ _ (and_left (leb s room) (leb n (room - s)) h) in
    let m : n ≤ room - s = leb-true _ _ (and_right (leb s room) (leb n (room - s)) h) in
    omega arith

-- ---- rows one after the other

-- the test of each place of a range, as `all` makes it
pub rows_all : (f : ℕ → Bool) (w i n : ℕ) (r : Bool) → r ≡ list_all (λ k. f (w * k)) (range_with_len i n) → r ≡ rows_fine f w i n
unfolding rows_fine
rows_all f w i zero r h = h
rows_all f w i (suc n) r h = h ∙ go (f (w * i)) refl (rows_all f w (i + 1) n _ refl)
  where
    go : (x : Bool) → f (w * i) ≡ x → list_all (λ k. f (w * k)) (range_with_len (i + 1) n) ≡ rows_fine f w (i + 1) n
        → (f (w * i) && list_all (λ k. f (w * k)) (range_with_len (i + 1) n)) ≡ rows_fine f w i (suc n)
    go true e ih = rw (rows_fine, e) ih
    go false e ih = rw (rows_fine, e)

-- each row of those that are fine
pub rows_each : (f : ℕ → Bool) (w i n j : ℕ) → rows_fine f w i n ≡ true → i ≤ j → j < i + n → f (w * j) ≡ true
unfolding rows_fine
rows_each f w i zero j h p q = absurd (omega arith)
rows_each f w i (suc n) j h p q = go (f (w * i)) refl (rows_each f w (i + 1) n j)
  where
    go : (x : Bool) → f (w * i) ≡ x → (rows_fine f w (i + 1) n ≡ true → i + 1 ≤ j → j < i + 1 + n → f (w * j) ≡ true) → f (w * j) ≡ true
    go false e ih = absurd (false≢true (rw (rows_fine, e) at h))
    go true e ih =
        elim (dec_le (i + 1) j) [
          | yes m ↦ ih (rw (rows_fine, e) at h) m (omega arith)
          | no m ↦ (let k : j ≡ i = omega (arith, lt_of_not-le m) in rw k e)
        ]

-- ---- features

-- number 10 of the location rows of the feature at a place
abbrev pub feature_located : Rooms → ℕ → Bool
feature_located r at = location_fine false r (text_in r.texts r.features (at + 2)) (get_or r.features (at + 6) 0) (get_or r.features (at + 7) 0)

abbrev pub after_next : Rooms → ℕ → ℕ → Option ℕ → Bool
after_next r i k (Some f) = feature_located r (8 * i) && features_fine r (i + 1) f k
after_next r i k None = false

pub features_step : (r : Rooms) (i from k : ℕ) → features_fine r i from (suc k) ≡ after_next r i k (feature_next r (8 * i) from)
unfolding features_fine feature_next feature_row_fine
features_step r i from k =
    go _ refl _ refl _ refl _ refl _ refl
  where
    go : (a : Bool) → row_text_fine r r.features (8 * i) ≡ a → (b : Bool) → row_text_fine r r.features (8 * i + 2) ≡ b → (l : Bool)
        → feature_located r (8 * i) ≡ l → (y : Bool) → eqb (get_or r.features (8 * i + 5) 0) 0 ≡ y → (z : Bool)
        → qualifiers_fine r from (get_or r.features (8 * i + 4) 0) (get_or r.features (8 * i + 5) 0) ≡ z
        → features_fine r i from (suc k) ≡ after_next r i k (feature_next r (8 * i) from)
    go false p b q l s y t z u = rw (features_fine, p)
    go true p false q l s y t z u = rw (features_fine, p, q)
    go true p true q false s true t z u = rw (features_fine, p, q, s, t, s)
    go true p true q false s false t true u = rw (features_fine, p, q, s, t, u, s)
    go true p true q false s false t false u = rw (features_fine, p, q, s, t, u)
    go true p true q true s true t z u = rw (features_fine, p, q, s, t, s)
    go true p true q true s false t false u = rw (features_fine, p, q, s, t, u)
    go true p true q true s false t true u = rw (features_fine, p, q, s, t, u, s)

module _ (r : Rooms) (i n from : ℕ) where
  pub features_end : (whole : Bool) → whole ≡ features_fine r i from (n - i) → n ≤ i → true ≡ whole
  unfolding features_fine
  features_end whole g l = let e : n - i ≡ 0 = omega arith in sym (g ∙ rw e)

-- only texts, features and qualifiers matter
pub next_alike : (r : Rooms) (at from : ℕ) → feature_next (feature_rooms r.texts r.features r.qualifiers) at from ≡ feature_next r at from
unfolding feature_next qualifiers_fine qualifier_row_fine
next_alike r at from = refl
