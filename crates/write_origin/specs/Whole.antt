-- A whole line of sixty letters, as it is written at once.
use Rattle.std.specs.Prelude.{◌≡◌, refl, ℕ, suc, ◌+◌, ◌-◌, ◌*◌, ◌%◌, ◌≤◌, ◌<◌, List, [], ◌∷◌, ◌++◌, length, take, drop, get_or}
use Rattle.std.proofs.Common.{arith, add-zero, add-one, append_assoc, length-drop, drop-drop, drop-cons, eq-eqb, ne_eqb}
use Rattle.spec_format.specs.Bytes.{decimal}
use Rattle.spec_format.specs.Write.{right_aligned, letter_lines}
use Rattle.base_pen.specs.Pen.{Wrote, Writes, wrote_append, Left, left_step, left_as}
use Rattle.write_origin.specs.Origin.{ten}

-- a space and the ten letters from i on
abbrev pub spaced : List ℕ → ℕ → List ℕ
spaced t i = 32 ∷ [] ++ take 10 (drop i t)

abbrev pub thirty : List ℕ → ℕ → List ℕ
thirty t i = spaced t i ++ spaced t (i + 10) ++ spaced t (i + 20)

-- the line of the letters from i on
abbrev pub sixty : List ℕ → ℕ → List ℕ
sixty t i = 10 ∷ [] ++ right_aligned 9 (decimal (i + 1)) ++ thirty t i ++ thirty t (i + 30)

-- what a caller of `put_lines` learns: k lines stand there, and the rest of the letters is left to write
pub record Lines (old : List ℕ) (at : ℕ) (letters new : List ℕ) (k : ℕ) : Type 0 where
  pub inside : 60 * k ≤ length letters
  pub room : at + 76 * k ≤ length old
  pub left : Left old at (letter_lines 0 letters) new (at + 76 * k) (letter_lines (60 * k) (drop (60 * k) letters))

-- ---- ten letters, one by one
one_of : (t : List ℕ) (i n d : ℕ) → i + d < length t → take (suc n) (drop (i + d) t) ≡ get_or t (i + d) 0 ∷ take n (drop (i + (d + 1)) t)
one_of t i n d h = let e : suc (i + d) ≡ i + (d + 1) = omega arith in rw (drop-cons t (i + d) 0, e)

pub ten_is : (t : List ℕ) (i : ℕ) → i + 10 ≤ length t
    → get_or t i 0 ∷ get_or t (i + 1) 0 ∷ get_or t (i + 2) 0 ∷ get_or t (i + 3) 0 ∷ get_or t (i + 4) 0 ∷ get_or t (i + 5) 0 ∷ get_or t (i + 6) 0
    ∷ get_or t (i + 7) 0 ∷ get_or t (i + 8) 0 ∷ get_or t (i + 9) 0 ∷ []
    ≡ take 10 (drop i t)
ten_is t i h =
    let a : take 10 (drop i t) ≡ get_or t i 0 ∷ take 9 (drop (i + 1) t) = rw (add-zero i) at (one_of t i 9 0 (omega arith)) in
    rw (
      a,
      one_of t i 8 1 (omega arith),
      one_of t i 7 2 (omega arith),
      one_of t i 6 3 (omega arith),
      one_of t i 5 4 (omega arith),
      one_of t i 4 5 (omega arith),
      one_of t i 3 6 (omega arith),
      one_of t i 2 7 (omega arith),
      one_of t i 1 8 (omega arith),
      one_of t i 0 9 (omega arith),
    )

pub ten_length : (t : List ℕ) (i : ℕ) → i + 10 ≤ length t → length (take 10 (drop i t)) ≡ 10
ten_length t i h = rw (← (ten_is t i h))

-- ---- the letters from i on begin with a line
ten_grouped : (a b c r : List ℕ) → a ++ b ++ c ++ r ≡ a ++ (b ++ c) ++ r
ten_grouped a b c r = simp append_assoc

grouped : (n a b c d e f r : List ℕ) → n ++ a ++ (b ++ (c ++ (d ++ (e ++ (f ++ r))))) ≡ n ++ (a ++ b ++ c) ++ (d ++ e ++ f) ++ r
grouped n a b c d e f r = simp append_assoc

first_ten : (t : List ℕ) (i : ℕ) → i % 60 ≡ 0 → i + 10 ≤ length t
    → letter_lines i (drop i t) ≡ 10 ∷ [] ++ right_aligned 9 (decimal (i + 1)) ++ spaced t i ++ letter_lines (i + 10) (drop (i + 10) t)
first_ten t i h l =
    let z : i % 10 ≡ 0 = omega arith in
    let n : length (drop i t) ≡ length t - i = length-drop i t in
    rw (ten 10 i (drop i t) (omega arith) (omega arith) (omega arith) z, drop-drop 10 i t, eq-eqb (i % 60) 0 h, eq-eqb (i % 10) 0 z, add-one i)
    (ten_grouped (10 ∷ [] ++ right_aligned 9 (decimal (suc i))) (32 ∷ []) (take 10 (drop i t)) (letter_lines (i + 10) (drop (i + 10) t)))

next_ten : (t : List ℕ) (i d : ℕ) → (i + d) % 10 ≡ 0 → ((i + d) % 60 ≡ 0 → ⊥) → i + d + 10 ≤ length t
    → letter_lines (i + d) (drop (i + d) t) ≡ spaced t (i + d) ++ letter_lines (i + (d + 10)) (drop (i + (d + 10)) t)
next_ten t i d h k l =
    let n : length (drop (i + d) t) ≡ length t - (i + d) = length-drop (i + d) t in
    let e : i + d + 10 ≡ i + (d + 10) = omega arith in
    rw (ten 10 (i + d) (drop (i + d) t) (omega arith) (omega arith) (omega arith) h, drop-drop 10 (i + d) t, ne_eqb ((i + d) % 60) 0 k, eq-eqb ((i + d) % 10) 0 h, e)

line_first : (t : List ℕ) (i : ℕ) → i % 60 ≡ 0 → i + 60 ≤ length t → letter_lines i (drop i t) ≡ sixty t i ++ letter_lines (i + 60) (drop (i + 60) t)
line_first t i h l =
    let a : i + 30 + 10 ≡ i + 40 = omega arith in
    let b : i + 30 + 20 ≡ i + 50 = omega arith in
    rw (
      a,
      b,
      first_ten t i h (omega arith),
      next_ten t i 10 (omega arith) (λ e. omega arith) (omega arith),
      next_ten t i 20 (omega arith) (λ e. omega arith) (omega arith),
      next_ten t i 30 (omega arith) (λ e. omega arith) (omega arith),
      next_ten t i 40 (omega arith) (λ e. omega arith) (omega arith),
      next_ten t i 50 (omega arith) (λ e. omega arith) (omega arith),
    )
    (grouped (10 ∷ [] ++ right_aligned 9 (decimal (i + 1))) (spaced t i) (spaced t (i + 10)) (spaced t (i + 20)) (spaced t (i + 30)) (spaced t (i + 40))
    (spaced t (i + 50)) (letter_lines (i + 60) (drop (i + 60) t)))

-- texts that fit, one after the other, each at a place of its own
pub twice : {l m n x y : List ℕ} {i j p q : ℕ} (h : ℕ) → Wrote l i x m p → Wrote m j y n q → p ≡ j → q ≡ h → Wrote l i (x ++ y) n h
twice h u v e f = rw f at (wrote_append (rw e at u) v)

pub thrice : {l m n o x y z : List ℕ} {i j k p q r : ℕ} (h : ℕ)
    → Wrote l i x m p → Wrote m j y n q → Wrote n k z o r → p ≡ j → q ≡ k → r ≡ h → Wrote l i (x ++ y ++ z) o h
thrice h u v w e f g = twice h (twice _ u v e f) w refl g

-- what fits is a write
wrote_fits : {l m x : List ℕ} {i k : ℕ} → Wrote l i x m k → i ≤ k → Writes l i x m k
wrote_fits w u = record { fit = λ h. w; up = u }

-- a turn of the loop over lines
pub line_turn : {l m n x : List ℕ} {s p : ℕ} (t : List ℕ) (i : ℕ)
    → Left l s x m p (letter_lines i (drop i t)) → i % 60 ≡ 0 → i + 60 ≤ length t → Wrote m p (sixty t i) n (p + 76)
    → Left l s x n (p + 76) (letter_lines (i + 60) (drop (i + 60) t))
line_turn t i left h l w = left_step (left_as (line_first t i h l) left) (wrote_fits w (omega arith))

pub lines_are : (l : List ℕ) (at : ℕ) (t m : List ℕ) (k p : ℕ) {i : ℕ} → i ≡ 60 * k → p ≡ at + 76 * k → i ≤ length t → p ≤ length l
    → Left l at (letter_lines 0 t) m p (letter_lines i (drop i t)) → Lines l at t m k
lines_are l at t m k p {i} e f a b left = record { inside = rw e at a; room = rw f at b; left = rw (e, f) at left }
