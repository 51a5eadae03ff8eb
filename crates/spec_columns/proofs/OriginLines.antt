-- The letters are written 60 a line, the number of the line's first letter right-aligned in columns 1 to 9, blocks of ten from column 11, and nothing after them.
use Rattle.std.specs.Prelude.{ℕ, zero, suc, ◌+◌, ◌-◌, ◌*◌, ◌%◌, ◌≤◌, ◌<◌, true, ◌≡◌, refl, List, [], ◌∷◌, ◌++◌, length, take, drop}
use Rattle.std.proofs.Common.{not-suc-le-zero, arith, sym, ap, ◌∙◌, append_assoc, length-drop, drop-drop, take-take, eq-eqb}
use Rattle.std.proofs.Math.Seq.{take-nil}
use Rattle.spec_format.specs.Bytes.{bytes, decimal}
use Rattle.spec_format.specs.Write.{right_aligned, line_start, letter_lines, origin_lines}
use Rattle.spec_public.specs.Public.{blocks, entry_columns, origin_columns}
use Rattle.spec_columns.specs.Tests.{both, same_as}
use Rattle.spec_columns.specs.Lengths.{nine_digits}
use Rattle.spec_columns.specs.Parts.{part, right_length}
use Rattle.spec_columns.specs.Lines.{lined}
use Rattle.spec_columns.specs.OriginLines.{numbered, ten_after, tens}

-- ---- what stands before a letter

start_is : (i : ℕ) → i % 60 ≡ 0 → line_start i ≡ 10 ∷ [] ++ right_aligned 9 (decimal (suc i))
start_is i h = rw (eq-eqb (i % 60) 0 h)

-- ---- a line

drop_of_take : (a m : ℕ) (l : List ℕ) → drop a (take (a + m) l) ≡ take m (drop a l)
drop_of_take zero m l = let e : 0 + m ≡ m = omega arith in rw e
drop_of_take (suc a) m [] = rw (take-nil {A = ℕ} (suc a + m), take-nil {A = ℕ} m)
drop_of_take (suc a) m (b ∷ l) = let e : suc a + m ≡ suc (a + m) = omega arith in rw e (drop_of_take a m l)

-- only the letters of the line are looked at
blocks_take : (n : ℕ) (l : List ℕ) → blocks n (take (10 * n) l) ≡ blocks n l
unfolding blocks
blocks_take zero l = refl
blocks_take (suc n) [] = rw (take-nil {A = ℕ} (10 * suc n))
blocks_take (suc n) (b ∷ t) =
    let e : 10 * suc n ≡ suc (9 + 10 * n) = omega arith in
    rw (e, blocks, take-take 9 (9 + 10 * n) t (omega arith), drop_of_take 9 (10 * n) t, blocks_take n (drop 9 t))

-- the line of the letters l, of which the first has number i, counted from 0
unfoldable numbered_line : ℕ → List ℕ → List ℕ
numbered_line i l = right_aligned 9 (decimal (suc i)) ++ blocks 6 l

regroup : (x r y z w : List ℕ) → x ++ r ++ (y ++ (z ++ w)) ≡ x ++ (r ++ (y ++ z)) ++ w
regroup x r y z w = simp append_assoc

whole_line :
    (i b : ℕ) (t : List ℕ) → i % 60 ≡ 0 →
    letter_lines i (b ∷ t) ≡ 10 ∷ [] ++ numbered_line i (take 60 (b ∷ t)) ++ letter_lines (i + 60) (drop 60 (b ∷ t))
unfolding numbered_line blocks
whole_line i b t h =
    let e : i + 10 + 10 * 5 ≡ i + 60 = omega arith in
    let d : drop (10 * 5) (drop 10 (b ∷ t)) ≡ drop 60 (b ∷ t) = drop-drop 50 10 (b ∷ t) in
    let start : List ℕ = right_aligned 9 (decimal (suc i)) in
    let w : List ℕ = letter_lines (i + 60) (drop 60 (b ∷ t)) in
    let r : letter_lines (i + 10) (drop 10 (b ∷ t)) ≡ blocks 5 (drop 10 (b ∷ t)) ++ w =
    tens 5 (i + 10) (drop 10 (b ∷ t)) (omega arith) (λ q. omega arith) (omega arith) ∙ rw (e, d) in
    ten_after i b t (10 ∷ [] ++ start) (omega arith) (start_is i h) ∙
    (ap (λ (z : List ℕ). 10 ∷ [] ++ start ++ (32 ∷ [] ++ take 10 (b ∷ t) ++ z)) r ∙
    (regroup (10 ∷ []) start (32 ∷ [] ++ take 10 (b ∷ t)) (blocks 5 (drop 10 (b ∷ t))) w ∙
    ap (λ (z : List ℕ). 10 ∷ [] ++ (start ++ z) ++ w) (sym (blocks_take 6 (b ∷ t)))))

-- ---- all lines, n of them at most

unfoldable rows : ℕ → ℕ → List ℕ → List (List ℕ)
rows zero i l = []
rows (suc n) i [] = []
rows (suc n) i (b ∷ t) = numbered_line i (take 60 (b ∷ t)) ∷ rows n (i + 60) (drop 60 (b ∷ t))

lines_are : (n i : ℕ) (l : List ℕ) → length l ≤ n → i % 60 ≡ 0 → letter_lines i l ≡ 10 ∷ [] ++ lined (rows n i l)
unfolding rows letter_lines
lines_are zero i [] h g = refl
lines_are zero i (b ∷ t) h g = absurd (not-suc-le-zero h)
lines_are (suc n) i [] h g = refl
lines_are (suc n) i (b ∷ t) h g =
    let line : List ℕ = numbered_line i (take 60 (b ∷ t)) in
    let r : letter_lines (i + 60) (drop 60 (b ∷ t)) ≡ 10 ∷ [] ++ lined (rows n (i + 60) (drop 60 (b ∷ t))) =
    lines_are n (i + 60) (drop 60 (b ∷ t)) (omega (arith, length-drop 60 (b ∷ t))) (omega arith) in
    whole_line i b t g ∙ rw r (ap (λ (z : List ℕ). 10 ∷ z) (sym (append_assoc line (10 ∷ []) (lined (rows n (i + 60) (drop 60 (b ∷ t)))))))

row_columns : (i : ℕ) (l : List ℕ) → suc i < 1000000000 → origin_columns (decimal (suc i)) l (numbered_line i l) ≡ true
unfolding numbered_line
row_columns i l h =
    let count : List ℕ = decimal (suc i) in
    let p = part (right_aligned 9 count ++ blocks 6 l) 0 9 (right_aligned 9 count) (blocks 6 l) refl (right_length 9 count (nine_digits (suc i) h)) in
    both _ _ (same_as _ _ p.here) (both _ _ (same_as _ _ p.next) refl)

rows_numbered : (n i : ℕ) (l : List ℕ) → length l ≤ n → (0 < length l → i + length l < 1000000000) → numbered i l (rows n i l) ≡ true
unfolding rows numbered
rows_numbered zero i [] h g = refl
rows_numbered zero i (b ∷ t) h g = absurd (not-suc-le-zero h)
rows_numbered (suc n) i [] h g = refl
rows_numbered (suc n) i (b ∷ t) h g =
    let e : length (drop 60 (b ∷ t)) ≡ length (b ∷ t) - 60 = length-drop 60 (b ∷ t) in
    let m : i + length (b ∷ t) < 1000000000 = g (omega arith) in
    both _ _ (row_columns i (take 60 (b ∷ t)) (omega arith))
    (rows_numbered n (i + 60) (drop 60 (b ∷ t)) (omega arith) (λ q. omega arith))

-- ORIGIN is a line with its word, and then lines in the columns of the flat file
pub origin_columns_lem :
    (b : ℕ) (t : List ℕ) → length (b ∷ t) ≤ 999999999 →
    (word : List ℕ) × (lines : List (List ℕ)) × (origin_lines (b ∷ t) ≡ lined (word ∷ lines)) × (entry_columns 1 (bytes "ORIGIN") [] word ≡ true) ×
    (numbered 0 (b ∷ t) lines ≡ true)
unfolding origin_lines
origin_columns_lem b t h =
    let n : ℕ = length (b ∷ t) in (
      bytes "ORIGIN      ",
      rows n 0 (b ∷ t),
      ap (λ (z : List ℕ). bytes "ORIGIN      " ++ z) (lines_are n 0 (b ∷ t) (omega arith) refl),
      refl,
      rows_numbered n 0 (b ∷ t) (omega arith) (λ q. omega arith),
    )
