-- Lines of letters, 60 a line, that are numbered, and how the letters are written up to the next ten and to the line's end. The lines are in proofs/OriginLines.antt.
use Rattle.std.specs.Prelude.{ℕ, zero, suc, ◌+◌, ◌-◌, ◌*◌, ◌%◌, ◌≤◌, ◌<◌, Bool, ◌&&◌, not, ◌≡◌, refl, List, [], ◌∷◌, ◌++◌, take, drop}
use Rattle.std.proofs.Common.{arith, sym, ap, ◌∙◌, append_assoc, drop-drop, eq-eqb, ne_eqb}
use Rattle.std.proofs.Math.Seq.{drop-nil}
use Rattle.spec_format.specs.Bytes.{some, decimal}
use Rattle.spec_format.specs.Write.{line_start, ten_start, letter_lines}
use Rattle.spec_public.specs.Public.{blocks, origin_columns}

-- the lines have the letters l, sixty a line, of which the first has number i, counted from 0; no line is without letters, no letter without a line
unfoldable pub numbered : ℕ → List ℕ → List (List ℕ) → Bool
numbered i l [] = not (some l)
numbered i l (line ∷ lines) = some l && (origin_columns (decimal (suc i)) (take 60 l) line && numbered (i + 60) (drop 60 l) lines)

-- ---- the letters up to the next ten, and to the line's end

letter_plain : (i b : ℕ) (t : List ℕ) → 0 < i % 10 → letter_lines i (b ∷ t) ≡ b ∷ letter_lines (suc i) t
unfolding letter_lines
letter_plain i b t h =
    rw (letter_lines, ne_eqb (i % 60) 0 (λ e. omega arith), ne_eqb (i % 10) 0 (λ e. omega arith))

-- the letters up to the next ten, m at most
run : (m i : ℕ) (l : List ℕ) → (0 < m → 0 < i % 10) → i % 10 + m ≤ 10 → letter_lines i l ≡ take m l ++ letter_lines (i + m) (drop m l)
unfolding letter_lines
run zero i l h g = let e : i + 0 ≡ i = omega arith in rw e
run (suc m) i [] h g = refl
run (suc m) i (b ∷ t) h g =
    let e : suc i + m ≡ i + suc m = omega arith in
    let p : 0 < i % 10 = h (omega arith) in
    rw (letter_plain i b t p, run m (suc i) t (λ q. omega arith) (omega arith), e)

-- ---- what stands before a letter

start_none : (i : ℕ) → 0 < i % 60 → line_start i ≡ []
start_none i h = rw (ne_eqb (i % 60) 0 (λ z. omega arith))

ten_is : (i : ℕ) → i % 10 ≡ 0 → ten_start i ≡ 32 ∷ []
ten_is i h = rw (eq-eqb (i % 10) 0 h)

letter_parts :
    (b : ℕ) (x x' y y' z z' : List ℕ) → x ≡ x' → y ≡ y' → z ≡ z' → x ++ y ++ b ∷ [] ++ z ≡ x' ++ (y' ++ (b ∷ [] ++ z'))
letter_parts b x x' y y' z z' p q r = rw (p, q, r) (simp append_assoc)

-- a ten and what stands before it
pub ten_after :
    (i b : ℕ) (t x : List ℕ) → i % 10 ≡ 0 → line_start i ≡ x →
    letter_lines i (b ∷ t) ≡ x ++ (32 ∷ [] ++ take 10 (b ∷ t) ++ letter_lines (i + 10) (drop 10 (b ∷ t)))
unfolding letter_lines
ten_after i b t x h s =
    let e : suc i + 9 ≡ i + 10 = omega arith in
    let r : letter_lines (suc i) t ≡ take 9 t ++ letter_lines (i + 10) (drop 9 t) = run 9 (suc i) t (λ q. omega arith) (omega arith) ∙ rw e in
    letter_parts b (line_start i) x (ten_start i) (32 ∷ []) (letter_lines (suc i) t) (take 9 t ++ letter_lines (i + 10) (drop 9 t)) s (ten_is i h) r

-- n tens of a line, none of which begins it
pub tens :
    (n i : ℕ) (l : List ℕ) → i % 10 ≡ 0 → (0 < n → 0 < i % 60) → i % 60 + 10 * n ≤ 60 →
    letter_lines i l ≡ blocks n l ++ letter_lines (i + 10 * n) (drop (10 * n) l)
unfolding blocks letter_lines
tens zero i l h k g = let e : i + 10 * 0 ≡ i = omega arith in rw e
tens (suc n) i [] h k g = rw (drop-nil {A = ℕ} (10 * suc n))
tens (suc n) i (b ∷ t) h k g =
    let e : i + 10 + 10 * n ≡ i + 10 * suc n = omega arith in
    let d : 10 + 10 * n ≡ 10 * suc n = omega arith in
    let p : 0 < i % 60 = k (omega arith) in
    let r : letter_lines (i + 10) (drop 10 (b ∷ t)) ≡ blocks n (drop 10 (b ∷ t)) ++ letter_lines (i + 10 * suc n) (drop (10 * suc n) (b ∷ t)) =
    tens n (i + 10) (drop 10 (b ∷ t)) (omega arith) (λ q. omega arith) (omega arith) ∙ rw (e, drop-drop (10 * n) 10 (b ∷ t), d) in
    ten_after i b t [] h (start_none i p) ∙
    (ap (λ (z : List ℕ). 32 ∷ [] ++ take 10 (b ∷ t) ++ z) r ∙
    sym (append_assoc (32 ∷ [] ++ take 10 (b ∷ t)) (blocks n (drop 10 (b ∷ t))) (letter_lines (i + 10 * suc n) (drop (10 * suc n) (b ∷ t)))))
