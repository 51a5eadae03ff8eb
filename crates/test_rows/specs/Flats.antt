-- The rows of structs that stand in a flat room: a row fetched from it, a turn of the loop that fetches, and one of the loop that puts.
use Rattle.std.specs.Prelude.{ℕ, zero, suc, ◌+◌, ◌*◌, ◌≤◌, ◌<◌, ◌≡◌, refl, List, [], ◌∷◌, ◌++◌, length, get_or, set, take, drop}
use Rattle.std.proofs.Common.{not-suc-le-zero, le_of_suc-le-suc, suc-add, arith, sym, ap, ◌∙◌, drop_of_length-le, take-add, drop-cons, length-take-le}
use Rattle.std.proofs.lemmas.List.Edits.{sets}
use Rattle.base_pen.specs.Pen.{Writes, Left, left_as, left_step, left_end}
use Rattle.base_rows.specs.declared.Feature.{Feature}
use Rattle.base_rows.specs.Rows.{numbers, flat}
use Rattle.base_rows.specs.Flat.{flat_length}

-- ---- the eight numbers at a place

eight_first : (t : List ℕ) → 7 < length t → get_or t 0 0 ∷ get_or t 1 0 ∷ get_or t 2 0 ∷ get_or t 3 0 ∷ get_or t 4 0 ∷ get_or t 5 0 ∷ get_or t 6 0 ∷ get_or t 7 0 ∷ [] ≡ take 8 t
eight_first [] h = absurd (omega arith)
eight_first (a ∷ []) h = absurd (omega arith)
eight_first (a ∷ b ∷ []) h = absurd (omega arith)
eight_first (a ∷ b ∷ c ∷ []) h = absurd (omega arith)
eight_first (a ∷ b ∷ c ∷ d ∷ []) h = absurd (omega arith)
eight_first (a ∷ b ∷ c ∷ d ∷ e ∷ []) h = absurd (omega arith)
eight_first (a ∷ b ∷ c ∷ d ∷ e ∷ f ∷ []) h = absurd (omega arith)
eight_first (a ∷ b ∷ c ∷ d ∷ e ∷ f ∷ g ∷ []) h = absurd (omega arith)
eight_first (a ∷ b ∷ c ∷ d ∷ e ∷ f ∷ g ∷ h ∷ t) k = refl

pub eight_at : (t : List ℕ) (i : ℕ) → i + 7 < length t →
    get_or t i 0 ∷ get_or t (i + 1) 0 ∷ get_or t (i + 2) 0 ∷ get_or t (i + 3) 0 ∷ get_or t (i + 4) 0 ∷ get_or t (i + 5) 0 ∷ get_or t (i + 6) 0 ∷ get_or t (i + 7) 0 ∷ []
    ≡ take 8 (drop i t)
eight_at [] i h = absurd (omega arith)
eight_at (x ∷ t) zero h = eight_first (x ∷ t) (omega arith)
eight_at (x ∷ t) (suc i) h = rw (suc-add i 1, suc-add i 2, suc-add i 3, suc-add i 4, suc-add i 5, suc-add i 6, suc-add i 7) (eight_at t i (omega arith))

-- ---- fetched, row by row

flat_append : (a b : List Feature) → flat (a ++ b) ≡ flat a ++ flat b
unfolding flat
flat_append [] b = refl
flat_append (f ∷ a) b = ap (λ (l : List ℕ). numbers f ++ l) (flat_append a b)

flat_one : (f : Feature) → flat (f ∷ []) ≡ numbers f
unfolding flat
flat_one f = refl

take_stored : (rows : List Feature) (i : ℕ) (f : Feature) → i < length rows → take (suc i) (set rows i f) ≡ take i rows ++ (f ∷ [])
take_stored [] i f h = absurd (not-suc-le-zero h)
take_stored (x ∷ rows) zero f h = refl
take_stored (x ∷ rows) (suc i) f h = ap (λ (l : List Feature). x ∷ l) (take_stored rows i f (le_of_suc-le-suc h))

eight_more : (i : ℕ) → 8 * (i + 1) ≡ 8 * i + 8
eight_more i = omega arith

pub fetched_on : (rows : List Feature) (i : ℕ) (f : Feature) (t : List ℕ) → i < length rows
    → flat (take i rows) ≡ take (8 * i) t → numbers f ≡ take 8 (drop (8 * i) t) → flat (take (i + 1) (set rows i f)) ≡ take (8 * (i + 1)) t
fetched_on rows i f t h e q =
    let z : i + 1 ≡ suc i = omega arith in
    rw z (ap flat (take_stored rows i f h)) ∙ flat_append (take i rows) (f ∷ []) ∙ rw (flat_one f, e, q, eight_more i) (sym (take-add (8 * i) 8 t))

pub flat_none : flat [] ≡ []
unfolding flat
flat_none = refl

pub fetched_all : (rows : List Feature) (i n : ℕ) (t : List ℕ) → flat (take i rows) ≡ take (8 * i) t → i ≡ n → flat (take n rows) ≡ take (8 * n) t
fetched_all rows i n t e q = rw q at e

-- ---- put, row by row

get_d_taken : (n : ℕ) (rows : List Feature) (i : ℕ) (d : Feature) → i < n → get_or (take n rows) i d ≡ get_or rows i d
get_d_taken zero rows i d h = absurd (not-suc-le-zero h)
get_d_taken (suc n) [] i d h = refl
get_d_taken (suc n) (x ∷ rows) zero d h = refl
get_d_taken (suc n) (x ∷ rows) (suc i) d h = get_d_taken n rows i d (le_of_suc-le-suc h)

row_next : (n : ℕ) (rows : List Feature) (i : ℕ) (d : Feature) → i < n → n ≤ length rows → flat (drop i (take n rows)) ≡ numbers (get_or rows i d) ++ flat (drop (i + 1) (take n rows))
unfolding flat
row_next n rows i d h k =
    let z : i + 1 ≡ suc i = omega arith in
    let l : length (take n rows) ≡ n = length-take-le n rows k in
    ap flat (drop-cons (take n rows) i d (omega (arith, l))) ∙ rw (get_d_taken n rows i d h, z)

pub put_on : (l x m o : List ℕ) (j k n : ℕ) (rows : List Feature) (i : ℕ) (d : Feature)
    → Left l 0 x m j (flat (drop i (take n rows))) → i < n → n ≤ length rows → Writes m j (numbers (get_or rows i d)) o k → Left l 0 x o k (flat (drop (i + 1) (take n rows)))
put_on l x m o j k n rows i d p h q w = left_step (left_as (row_next n rows i d h q) p) w

none_left : (ys : List Feature) (n : ℕ) → length ys ≤ n → flat (drop n ys) ≡ []
unfolding flat
none_left ys n h = rw (drop_of_length-le ys {i = n} h)

pub put_done : (l m : List ℕ) (j n : ℕ) (rows : List Feature) (i : ℕ)
    → Left l 0 (flat (take n rows)) m j (flat (drop i (take n rows))) → n ≤ i → n ≤ length rows → n ≤ 42 → m ≡ sets l 0 (flat (take n rows))
put_done l m j n rows i p h k s =
    let e : length (take n rows) ≡ n = length-take-le n rows k in
    let z : flat (drop i (take n rows)) ≡ [] = none_left (take n rows) i (omega (arith, e)) in
    let q : length (flat (take n rows)) ≡ 8 * length (take n rows) = flat_length (take n rows) in
    ((left_end (left_as z p)).fit (omega (arith, q, e))).is
