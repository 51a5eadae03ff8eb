-- The ORIGIN block, ten letters at a time: within ten letters nothing stands between them. And how long the block can be.
use Rattle.std.specs.Prelude.{◌≡◌, refl, ℕ, suc, zero, ◌+◌, ◌-◌, ◌*◌, ◌%◌, ◌≤◌, ◌<◌, Bool, true, false, List, [], ◌∷◌, ◌++◌, eqb, length, take, drop}
use Rattle.std.proofs.Common.{ap, arith, add-zero, add-suc, suc-add, add-one, append_assoc, drop_of_length-le, length-append, length-drop, drop-drop, eq-eqb, ne_eqb}
use Rattle.spec_format.specs.Bytes.{bytes, pick, decimal}
use Rattle.spec_format.specs.Write.{right_aligned, line_start, ten_start, letter_lines, origin_lines}
use Rattle.base_pen.specs.Pen.{Writes, Left, left_step, left_as, writes_append}
use Rattle.write_decimal.specs.Decimal.{length_nine}

-- what a caller of `ten_end` learns: ten letters on, or all that there are
pub record Ten (i n r : ℕ) : Type 0 where
  pub some : i < r
  pub inside : r ≤ n
  pub most : r ≤ i + 10
  pub next : r < n → r ≡ i + 10

-- what stands before a letter, by the code's tests
pub mark_line : (i : ℕ) → i % 60 ≡ 0 → 10 ∷ [] ++ right_aligned 9 (decimal (i + 1)) ++ 32 ∷ [] ≡ line_start i ++ ten_start i
mark_line i h = let e : i % 10 ≡ 0 = omega arith in rw (add-one i, eq-eqb (i % 60) 0 h, eq-eqb (i % 10) 0 e)

pub mark_ten : (i : ℕ) → (i % 60 ≡ 0 → ⊥) → i % 10 ≡ 0 → 32 ∷ [] ≡ line_start i ++ ten_start i
mark_ten i n h = rw (ne_eqb (i % 60) 0 n, eq-eqb (i % 10) 0 h)

pub mark_none : (i : ℕ) → (i % 60 ≡ 0 → ⊥) → (i % 10 ≡ 0 → ⊥) → [] ≡ line_start i ++ ten_start i
mark_none i n h = rw (ne_eqb (i % 60) 0 n, ne_eqb (i % 10) 0 h)

-- within a ten
letter_quiet : (i b : ℕ) (t : List ℕ) → 1 ≤ i % 10 → letter_lines i (b ∷ t) ≡ b ∷ letter_lines (suc i) t
unfolding letter_lines
letter_quiet i b t h =
    let x : eqb (i % 60) 0 ≡ false = ne_eqb (i % 60) 0 (λ e. omega arith) in
    let y : eqb (i % 10) 0 ≡ false = ne_eqb (i % 10) 0 (λ e. omega arith) in
    rw (x, y)

run : (n i : ℕ) (t : List ℕ) → n ≤ length t → (0 < n → 1 ≤ i % 10) → n + i % 10 ≤ 10 → letter_lines i t ≡ take n t ++ letter_lines (i + n) (drop n t)
run zero i t h p q = rw (add-zero i)
run (suc n) i [] h p q = absurd (omega arith)
run (suc n) i (b ∷ t) h p q =
    let z : 1 ≤ i % 10 = p (omega arith) in
    rw (letter_quiet i b t z, add-suc i n, ← (suc-add i n))
    (ap (λ (l : List ℕ). b ∷ l) (run n (suc i) t (omega arith) (λ s. omega arith) (omega arith)))

-- ten letters from the start of a ten, or fewer
pub ten : (n i : ℕ) (t : List ℕ) → 1 ≤ n → n ≤ 10 → n ≤ length t → i % 10 ≡ 0
    → letter_lines i t ≡ (line_start i ++ ten_start i ++ take n t) ++ letter_lines (i + n) (drop n t)
unfolding letter_lines
ten zero i t a b h e = absurd (omega arith)
ten (suc n) i [] a b h e = absurd (omega arith)
ten (suc n) i (x ∷ t) a b h e =
    let r : letter_lines (suc i) t ≡ take n t ++ letter_lines (suc i + n) (drop n t) = run n (suc i) t (omega arith) (λ s. omega arith) (omega arith) in
    rw (r, add-suc i n, ← (suc-add i n)) (simp append_assoc)

-- a turn of the loop over tens
pub origin_turn : {l m n o x : List ℕ} {j k h s : ℕ} {r : ℕ} (t : List ℕ) (i : ℕ)
    → Left l s x m j (letter_lines i (drop i t)) → i < length t → i % 10 ≡ 0 → Ten i (length t) r
    → Writes m j (line_start i ++ ten_start i) n k → Writes n k (take (r - i) (drop i t)) o h → Left l s x o h (letter_lines r (drop r t))
origin_turn {l} {m} {n} {o} {x} {j} {k} {h} {s} {r} t i left p e u w v =
    let len : length (drop i t) ≡ length t - i = length-drop i t in
    let b : letter_lines i (drop i t) ≡ (line_start i ++ ten_start i ++ take (r - i) (drop i t)) ++ letter_lines (i + (r - i)) (drop (r - i) (drop i t)) =
    ten (r - i) i (drop i t) (omega (arith, u.some)) (omega (arith, u.most)) (omega (arith, u.inside)) e in
    let d : drop (r - i) (drop i t) ≡ drop (i + (r - i)) t = drop-drop (r - i) i t in
    let y : i + (r - i) ≡ r = omega (arith, u.some) in
    rw (d, y) at (left_step (left_as b left) (writes_append w v))

-- the next start of a ten
pub ten_next : (i n r : ℕ) → i % 10 ≡ 0 → Ten i n r → r < n → r % 10 ≡ 0
ten_next i n r e u h = let z : r ≡ i + 10 = u.next h in omega arith

pub origin_done : {l m n x : List ℕ} {i j k : ℕ} (t : List ℕ) (p : ℕ)
    → Left l i x m j (letter_lines p (drop p t)) → length t ≤ p → Writes m j (10 ∷ []) n k → Writes l i x n k
unfolding letter_lines
origin_done {l} {m} {n} {x} {i} {j} {k} t p s q w = let z : Left l i x m j (10 ∷ []) = rw (drop_of_length-le t q) at s in z.by n k w

pub origin_some : (t : List ℕ) → 1 ≤ length t → bytes "ORIGIN      " ++ letter_lines 0 t ≡ origin_lines t
unfolding origin_lines
origin_some [] h = absurd (omega arith)
origin_some (b ∷ bs) h = refl

pub origin_none : (t : List ℕ) → length t < 1 → [] ≡ origin_lines t
unfolding origin_lines
origin_none [] h = refl
origin_none (b ∷ bs) h = absurd (omega arith)

-- ---- lengths: linear in the letters
start_length : (i : ℕ) (b : Bool) → length (pick b (10 ∷ [] ++ right_aligned 9 (decimal (suc i))) []) ≤ 20
start_length i true = omega (arith, length-append {A = ℕ} (10 ∷ []) (right_aligned 9 (decimal (suc i))), length_nine (suc i))
start_length i false = omega arith

space_length : (b : Bool) → length {A = ℕ} (pick b (32 ∷ []) []) ≤ 1
space_length true = omega arith
space_length false = omega arith

letters_length_lem : (i : ℕ) (t : List ℕ) → length (letter_lines i t) ≤ 22 * length t + 1
unfolding letter_lines
letters_length_lem i [] = omega arith
letters_length_lem i (b ∷ t) =
    omega (
      arith,
      length-append (line_start i ++ ten_start i ++ b ∷ []) (letter_lines (suc i) t),
      length-append (line_start i ++ ten_start i) (b ∷ []),
      length-append (line_start i) (ten_start i),
      start_length i (eqb (i % 60) 0),
      space_length (eqb (i % 10) 0),
      letters_length_lem (suc i) t,
    )

pub origin_length : (t : List ℕ) → length (origin_lines t) ≤ 22 * length t + 13
unfolding origin_lines
origin_length [] = omega arith
origin_length (b ∷ t) = omega (arith, length-append (bytes "ORIGIN      ") (letter_lines 0 (b ∷ t)), letters_length_lem 0 (b ∷ t))
