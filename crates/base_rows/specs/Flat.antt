-- What is found in rows, and rows as flat numbers: how many there are, what a stored row changes, where a row stands, and that they tell the rows.
use Rattle.std.specs.Prelude.{ℕ, zero, suc, ◌+◌, ◌*◌, ◌≤◌, ◌≡◌, refl, List, [], ◌∷◌, ◌++◌, length, get_or, set, drop, Some, None, slice_get}
use Rattle.std.proofs.Common.{arith, ap, subst, ◌∙◌}
use Rattle.std.proofs.lemmas.List.Edits.{sets}
use Rattle.base_rows.specs.declared.Feature.{Feature}
use Rattle.base_rows.specs.Rows.{numbers, flat}
use Rattle.spec_format.specs.Impossible.{impossible}

-- ---- what is found

pub fetched_outside : (rows : List Feature) (i : ℕ) → slice_get rows i ≡ None → length rows ≤ i
fetched_outside [] i e = omega arith
fetched_outside (x ∷ rows) zero e = impossible cc
fetched_outside (x ∷ rows) (suc i) e = let h : length rows ≤ i = fetched_outside rows i e in omega arith

-- ---- the flat numbers

eight_more : (n : ℕ) → 8 * suc n ≡ suc (suc (suc (suc (suc (suc (suc (suc (8 * n))))))))
eight_more n = omega arith

eight_further : (n k : ℕ) → 8 * suc n + k ≡ suc (suc (suc (suc (suc (suc (suc (suc (8 * n + k))))))))
eight_further n k = omega arith

pub flat_length : (rows : List Feature) → length (flat rows) ≡ 8 * length rows
unfolding flat
flat_length [] = refl
flat_length (f ∷ rows) = rw (flat_length rows) (omega arith)

-- a stored row is eight stored numbers
pub flat_set : (rows : List Feature) (i : ℕ) (f : Feature) → flat (set rows i f) ≡ sets (flat rows) (8 * i) (numbers f)
unfolding flat
flat_set [] i f = refl
flat_set (x ∷ rows) zero f = refl
flat_set (x ∷ rows) (suc i) f = rw (eight_more i) (ap (λ (l : List ℕ). numbers x ++ l) (flat_set rows i f))

-- a row's numbers stand at a place of a room
pub record Standing (room : List ℕ) (at : ℕ) (f : Feature) : Type 0 where
  pub kind : get_or room at 0 ≡ f.kind.start
  pub kind_length : get_or room (at + 1) 0 ≡ f.kind.length
  pub location : get_or room (at + 2) 0 ≡ f.location.start
  pub location_length : get_or room (at + 3) 0 ≡ f.location.length
  pub first : get_or room (at + 4) 0 ≡ f.first
  pub count : get_or room (at + 5) 0 ≡ f.count
  pub row : get_or room (at + 6) 0 ≡ f.row
  pub rows : get_or room (at + 7) 0 ≡ f.rows

first_stands : (x : Feature) (rows : List Feature) → Standing (flat (x ∷ rows)) (8 * 0) x
unfolding flat
first_stands x rows = record { kind = refl; kind_length = refl; location = refl; location_length = refl; first = refl; count = refl; row = refl; rows = refl }

later_stands : (x : Feature) (rows : List Feature) (i : ℕ) (f : Feature) → Standing (flat rows) (8 * i) f → Standing (flat (x ∷ rows)) (8 * suc i) f
unfolding flat
later_stands x rows i f h =
    record {
      kind = rw (eight_more i) h.kind;
      kind_length = rw (eight_further i 1) h.kind_length;
      location = rw (eight_further i 2) h.location;
      location_length = rw (eight_further i 3) h.location_length;
      first = rw (eight_further i 4) h.first;
      count = rw (eight_further i 5) h.count;
      row = rw (eight_further i 6) h.row;
      rows = rw (eight_further i 7) h.rows;
    }

-- what was fetched stands there
pub fetched_stands : (rows : List Feature) (i : ℕ) (f : Feature) → slice_get rows i ≡ Some f → Standing (flat rows) (8 * i) f
fetched_stands [] i f e = impossible cc
fetched_stands (x ∷ rows) zero f e = let q : x ≡ f = cc in subst (λ (y : Feature). Standing (flat (x ∷ rows)) (8 * 0) y) q (first_stands x rows)
fetched_stands (x ∷ rows) (suc i) f e = later_stands x rows i f (fetched_stands rows i f e)

-- ---- equal numbers are of equal rows

abbrev row_with : ℕ → ℕ → ℕ → ℕ → ℕ → ℕ → ℕ → ℕ → Feature
row_with a b c d e f g h =
    record {
      kind = record { start = a; length = b };
      location = record { start = c; length = d };
      first = e;
      count = f;
      row = g;
      rows = h;
    }

feature_equal : (x y : Feature) → x.kind.start ≡ y.kind.start → x.kind.length ≡ y.kind.length → x.location.start ≡ y.location.start →
    x.location.length ≡ y.location.length → x.first ≡ y.first → x.count ≡ y.count → x.row ≡ y.row → x.rows ≡ y.rows → x ≡ y
feature_equal x y a b c d e f g h =
    ap (λ (n : ℕ). row_with n x.kind.length x.location.start x.location.length x.first x.count x.row x.rows) a
    ∙ ap (λ (n : ℕ). row_with y.kind.start n x.location.start x.location.length x.first x.count x.row x.rows) b
    ∙ ap (λ (n : ℕ). row_with y.kind.start y.kind.length n x.location.length x.first x.count x.row x.rows) c
    ∙ ap (λ (n : ℕ). row_with y.kind.start y.kind.length y.location.start n x.first x.count x.row x.rows) d
    ∙ ap (λ (n : ℕ). row_with y.kind.start y.kind.length y.location.start y.location.length n x.count x.row x.rows) e
    ∙ ap (λ (n : ℕ). row_with y.kind.start y.kind.length y.location.start y.location.length y.first n x.row x.rows) f
    ∙ ap (λ (n : ℕ). row_with y.kind.start y.kind.length y.location.start y.location.length y.first y.count n x.rows) g
    ∙ ap (λ (n : ℕ). row_with y.kind.start y.kind.length y.location.start y.location.length y.first y.count y.row n) h

pub flat_tells : (rows rows' : List Feature) → flat rows ≡ flat rows' → rows ≡ rows'
unfolding flat
flat_tells [] [] e = refl
flat_tells [] (y ∷ ys) e =
    let z : 0 ≡ suc (suc (suc (suc (suc (suc (suc (suc (length (flat ys))))))))) = ap length e in absurd (omega arith)
flat_tells (x ∷ xs) [] e =
    let z : suc (suc (suc (suc (suc (suc (suc (suc (length (flat xs))))))))) ≡ 0 = ap length e in absurd (omega arith)
flat_tells (x ∷ xs) (y ∷ ys) e =
    let q : x ≡ y = feature_equal x y (ap (λ (l : List ℕ). get_or l 0 0) e) (ap (λ (l : List ℕ). get_or l 1 0) e) (ap (λ (l : List ℕ). get_or l 2 0) e)
    (ap (λ (l : List ℕ). get_or l 3 0) e) (ap (λ (l : List ℕ). get_or l 4 0) e) (ap (λ (l : List ℕ). get_or l 5 0) e) (ap (λ (l : List ℕ). get_or l 6 0) e)
    (ap (λ (l : List ℕ). get_or l 7 0) e) in
    let h : xs ≡ ys = flat_tells xs ys (ap (λ (l : List ℕ). drop 8 l) e) in
    ap (λ (f : Feature). f ∷ xs) q ∙ ap (λ (l : List Feature). y ∷ l) h
