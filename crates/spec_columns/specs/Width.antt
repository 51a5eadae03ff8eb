-- Lines of at most W columns, and how many columns bytes take. That the lines which the writer wraps are such: proofs/Width.antt.
use Rattle.std.specs.Prelude.{ℕ, zero, suc, ◌+◌, ◌-◌, ◌≤◌, ◌<◌, Bool, true, false, ◌≡◌, refl, List, [], ◌∷◌, ◌++◌, length, eqb}
use Rattle.std.proofs.Common.{not-suc-le-zero, arith, append_assoc}
use Rattle.spec_format.specs.Wrap.{inner}
use Rattle.spec_public.specs.Public.{within}

-- ---- columns left

pub more_left : (W a b : ℕ) (t : List ℕ) → a ≤ b → within W a t ≡ true → within W b t ≡ true
unfolding within
more_left W a b [] h e = refl
more_left W a b (c ∷ t) h e = go (λ x y g k. more_left W x y t g k) (eqb c 10) refl (inner c) refl a b h e
  where
    go :
        ((x y : ℕ) → x ≤ y → within W x t ≡ true → within W y t ≡ true) → (f : Bool) → eqb c 10 ≡ f → (i : Bool) → inner c ≡ i → (a b : ℕ) → a ≤ b →
        within W a (c ∷ t) ≡ true → within W b (c ∷ t) ≡ true
    go ih true p i q a b h e = rw (within, p) (rw (within, p) at e)
    go ih false p true q a b h e = rw (within, p, q) (ih a b h (rw (within, p, q) at e))
    go ih false p false q zero b h e = let z : ◌≡◌ {A = ℕ} 0 1 = cc (rw (within, p, q) at e) in absurd (omega arith)
    go ih false p false q (suc a) zero h e = absurd (not-suc-le-zero h)
    go ih false p false q (suc a) (suc b) h e = rw (within, p, q) (ih a b (omega arith) (rw (within, p, q) at e))

-- a byte takes a column at most
pub one_byte : (W n b : ℕ) (t : List ℕ) → n ≤ W → within W n t ≡ true → within W (suc n) (b ∷ t) ≡ true
unfolding within
one_byte W n b t h e = go (eqb b 10) refl (inner b) refl
  where
    go : (f : Bool) → eqb b 10 ≡ f → (i : Bool) → inner b ≡ i → within W (suc n) (b ∷ t) ≡ true
    go true p i q = rw (within, p) (more_left W n W t h e)
    go false p true q = rw (within, p, q) (more_left W n (suc n) t (omega arith) e)
    go false p false q = rw (within, p, q) e

pub line_end_lem : (W n : ℕ) (t : List ℕ) → within W W t ≡ true → within W n (10 ∷ t) ≡ true
unfolding within
line_end_lem W n t e = e

pub some_bytes : (W left : ℕ) (a t : List ℕ) → left ≤ W → length a ≤ left → within W (left - length a) t ≡ true → within W left (a ++ t) ≡ true
some_bytes W left [] t h g e = let z : left - 0 ≡ left = omega arith in rw z at e
some_bytes W zero (b ∷ a) t h g e = absurd (not-suc-le-zero g)
some_bytes W (suc n) (b ∷ a) t h g e =
    let z : suc n - length (b ∷ a) ≡ n - length a = omega arith in
    one_byte W n b (a ++ t) (omega arith) (some_bytes W n a t (omega arith) (omega arith) (rw z at e))

-- x ends its lines within W where `left` columns are left in the first, whatever lines follow
unfoldable pub Narrow : ℕ → ℕ → List ℕ → Type 0
Narrow W left x = (y : List ℕ) → within W W y ≡ true → within W left (x ++ y) ≡ true

pub narrow_append : (W left : ℕ) (a b : List ℕ) → Narrow W left a → Narrow W W b → Narrow W left (a ++ b)
unfolding Narrow
narrow_append W left a b p q y e = rw (append_assoc a b y) (p (b ++ y) (q y e))

-- bytes of a line, and the rest of its lines
pub narrow_bytes : (W left : ℕ) (a b : List ℕ) → left ≤ W → length a ≤ left → Narrow W (left - length a) b → Narrow W left (a ++ b)
unfolding Narrow
narrow_bytes W left a b h g p y e = rw (append_assoc a b y) (some_bytes W left a (b ++ y) h g (p y e))

pub narrow_start : (W : ℕ) (a b : List ℕ) → length a ≤ W → Narrow W (W - length a) b → Narrow W W (a ++ b)
narrow_start W a b h p = narrow_bytes W W a b (omega arith) h p

pub narrow_end : (W left : ℕ) → Narrow W left (10 ∷ [])
unfolding Narrow
narrow_end W left y e = line_end_lem W left y e

-- ---- wrapped text

-- a line's columns are no more than its bytes, nor than there are
abbrev pub Fine : ℕ → ℕ → List ℕ → Type 0
Fine W used l = (y : List ℕ) → within W (W - (used + length l)) y ≡ true → within W (W - used) (l ++ y) ≡ true

pub fine_byte : (W used b : ℕ) (l : List ℕ) → used < W → Fine W (suc used) l → Fine W used (b ∷ l)
fine_byte W used b l h f y e =
    let z : W - (used + length (b ∷ l)) ≡ W - (suc used + length l) = omega arith in
    let w : W - used ≡ suc (W - suc used) = omega arith in
    rw w (one_byte W (W - suc used) b (l ++ y) (omega arith) (f y (rw z at e)))
