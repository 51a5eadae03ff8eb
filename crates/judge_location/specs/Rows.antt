-- A location's rows as the numbers of their room, compared with those of a reading.
use Rattle.std.specs.Prelude.{ℕ, zero, suc, ◌+◌, ◌*◌, ◌≤◌, ◌<◌, ◌≡◌, refl, true, ◌&&◌, List, [], ◌∷◌, eqb, length, take, drop, get_or}
use Rattle.std.proofs.Common.{inl, inr, arith, ap, eq-eqb}
use Rattle.std.proofs.lemmas.Bool.{false≢true, and_parts, cases_eq, eq-eqb, ne_eqb, false_from_ne_true}
use Rattle.std.proofs.lemmas.Grind.{common_steps}
use Rattle.spec_format.specs.Bytes.{same}
use Rattle.spec_format.specs.Rooms.{Rooms, location_numbers, rows_from, location_row_in, locations_from}
use Rattle.spec_format.specs.Table.{LocationRow}
use Rattle.read_location_row.specs.Rows.{numbers_length}

-- seven numbers from a place on
drop_seven : (l : List ℕ) (i : ℕ) → i + 6 < length l → drop i l ≡
    get_or l i 0 ∷ get_or l (i + 1) 0 ∷ get_or l (i + 2) 0 ∷ get_or l (i + 3) 0 ∷ get_or l (i + 4) 0 ∷ get_or l (i + 5) 0 ∷ get_or l (i + 6) 0 ∷ drop (i + 7) l
drop_seven l i h = grind (arith, common_steps)

seven_more : (n : ℕ) → 7 * suc n ≡ suc (suc (suc (suc (suc (suc (suc (7 * n)))))))
seven_more n = omega arith

-- rows in their room are the numbers that stand there
pub numbers_in : (r : Rooms) (row rows : ℕ) → 7 * (row + rows) ≤ length r.locations
    → location_numbers (locations_from r row rows) ≡ take (7 * rows) (drop (7 * row) r.locations)
unfolding location_numbers rows_from location_row_in
numbers_in r row zero h = refl
numbers_in r row (suc n) h =
    let next : 7 * (row + 1) ≡ 7 * row + 7 = omega arith in
    let rest : location_numbers (locations_from r (row + 1) n) ≡ take (7 * n) (drop (7 * row + 7) r.locations) = (rw next at (numbers_in r (row + 1) n (omega arith))) in
    rw (seven_more n, drop_seven r.locations (7 * row) (omega arith), rest)

rows_length : (r : Rooms) (row rows : ℕ) → length (locations_from r row rows) ≡ rows
unfolding rows_from
rows_length r row zero = refl
rows_length r row (suc n) = ap suc (rows_length r (row + 1) n)

same_length : (a b : List ℕ) → same a b ≡ true → length a ≡ length b
same_length [] [] h = refl
same_length [] (y ∷ b) h = absurd (false≢true h)
same_length (x ∷ a) [] h = absurd (false≢true h)
same_length (x ∷ a) (y ∷ b) h = ap suc (same_length a b (and_parts (eqb x y) (same a b) h).1)

-- a reading's rows are those of the room where there are as many and each number is the same
pub same_rows : (r : Rooms) (row rows : ℕ) (ls : List LocationRow) → 7 * (row + rows) ≤ length r.locations
    → same (location_numbers ls) (location_numbers (locations_from r row rows)) ≡
    (eqb (length ls) rows && same (location_numbers ls) (take (7 * length ls) (drop (7 * row) r.locations)))
same_rows r row rows ls h = elim (cases_eq (length ls) rows) [
  | inl n ↦ rw (eq-eqb _ _ n, numbers_in r row rows h, n)
  | inr n ↦
      rw (ne_eqb _ _ n) (false_from_ne_true _ (λ q. n (omega (arith, same_length (location_numbers ls) _ q, numbers_length ls, numbers_length (locations_from r row rows), rows_length r row rows))))
]
