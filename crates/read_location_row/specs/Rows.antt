-- Rows put into lent room and compared with those of another at once, and the laws of that.
use Rattle.std.specs.Prelude.{ℕ, suc, ◌+◌, ◌-◌, ◌*◌, ◌≤◌, ◌<◌, ◌≡◌, refl, Bool, true, false, ◌&&◌, List, [], ◌∷◌, ◌++◌, length, take, drop, get_or, eqb}
use Rattle.std.proofs.Common.{add-zero, arith, sym, ap, ◌∙◌, length-append, length-drop, drop-cons, drop-drop}
use Rattle.std.proofs.Math.Bool.{and_assoc, and-true, and-false}
use Rattle.std.proofs.lemmas.List.Edits.{sets}
use Rattle.spec_format.specs.Bytes.{same}
use Rattle.spec_format.specs.Table.{LocationRow}
use Rattle.spec_format.specs.Rooms.{row_numbers, location_numbers}
use Rattle.base_pen.specs.Pen.{Wrote, Writes, sets_append, wrote_append, sets_past}
use Rattle.read_location_row.specs.declared.Pen.{Pen}

-- whether numbers stand in a list from a place on
abbrev pub stand : List ℕ → ℕ → List ℕ → Bool
stand seen at ns = same ns (take (length ns) (drop at seen))

-- rows put into `old`, which made it `new`, and whether all of them so far are those of `seen`
pub record Noted (seen old : List ℕ) (pen : Pen) (ls : List LocationRow) (new : List ℕ) (to : Pen) : Type 0 where
  pub put : new ≡ sets old (7 * pen.row) (location_numbers ls)
  pub row : to.row ≡ pen.row + length ls
  pub same : to.same ≡ pen.same && stand seen (7 * pen.row) (location_numbers ls)

-- ---- laws

same_append : (a b l : List ℕ) → same (a ++ b) (take (length (a ++ b)) l) ≡ same a (take (length a) l) && same b (take (length b) (drop (length a) l))
same_append [] b l = refl
same_append (x ∷ a) b [] = refl
same_append (x ∷ a) b (y ∷ l) = ap (λ (z : Bool). eqb x y && z) (same_append a b l) ∙ sym (and_assoc (eqb x y) (same a (take (length a) l)) (same b (take (length b) (drop (length a) l))))

stand_append : (seen : List ℕ) (at : ℕ) (a b : List ℕ) → stand seen at (a ++ b) ≡ stand seen at a && stand seen (at + length a) b
stand_append seen at a b = same_append a b (drop at seen) ∙ ap (λ (l : List ℕ). stand seen at a && same b (take (length b) l)) (drop-drop (length a) at seen)

-- numbers put one behind the other
put_next : {old mid new ns : List ℕ} {at v next : ℕ} → at + length ns ≤ 1000000000 → Wrote old at ns mid (at + length ns) → Writes mid (at + length ns) (v ∷ []) new next
    → Wrote old at (ns ++ (v ∷ [])) new (at + length (ns ++ (v ∷ [])))
put_next h p w = record { is = (wrote_append p (w.fit (omega arith))).is; to = refl }

module _ (l : LocationRow) (at : ℕ) {a b c d e f g h : List ℕ} {i j k m n o p : ℕ} where
  pub row_put : at ≤ 700000000 → Writes a at (l.form ∷ []) b i → Writes b (at + 1) (l.marks ∷ []) c j → Writes c (at + 2) (l.from ∷ []) d k → Writes d (at + 3) (l.to ∷ []) e m
      → Writes e (at + 4) (l.start ∷ []) f n → Writes f (at + 5) (l.length ∷ []) g o → Writes g (at + 6) (l.inside ∷ []) h p → h ≡ sets a at (row_numbers l)
  row_put z q r s t u v w =
      let x : Wrote a at (l.form ∷ []) b (at + 1) = record { is = (q.fit (omega arith)).is; to = refl } in
      (put_next (omega arith) (put_next (omega arith) (put_next (omega arith) (put_next (omega arith) (put_next (omega arith) (put_next (omega arith) x r) s) t) u) v) w).is

pub past_none_put : (old : List ℕ) (at : ℕ) (ns : List ℕ) → length old ≤ at → old ≡ sets old at ns
past_none_put old at ns h = sym (sets_past ns old at h)

-- numbers compared one behind the other
number_stands : (seen : List ℕ) (at k v : ℕ) (ns : List ℕ) (r t : Bool) → at + k < length seen → t ≡ stand seen (at + (k + 1)) ns → r ≡ eqb v (get_or seen (at + k) 0) && t
    → r ≡ stand seen (at + k) (v ∷ ns)
number_stands seen at k v ns r t h p q = let e : at + (k + 1) ≡ suc (at + k) = omega arith in rw (q, p, e, drop-cons seen (at + k) 0 h)

same_short : (ns l : List ℕ) → length l < length ns → false ≡ same ns (take (length ns) l)
same_short [] l h = absurd (omega arith)
same_short (v ∷ ns) [] h = refl
same_short (v ∷ ns) (x ∷ l) h = rw (← same_short ns l (omega arith)) (sym (and-false (eqb v x)))

module _ (seen : List ℕ) (at : ℕ) (l : LocationRow) where
  pub row_short : length seen - at < 7 → false ≡ stand seen at (row_numbers l)
  row_short h = same_short (row_numbers l) (drop at seen) (rw (length-drop at seen) h)

  pub row_past : length seen ≤ at → false ≡ stand seen at (row_numbers l)
  row_past h = row_short (omega arith)

  module _ {a b c d e f : Bool} where
    pub row_stands : at < length seen → 7 ≤ length seen - at → a ≡ eqb l.length (get_or seen (at + 5) 0) && eqb l.inside (get_or seen (at + 6) 0) → b ≡ eqb l.start (get_or seen (at + 4) 0) && a
        → c ≡ eqb l.to (get_or seen (at + 3) 0) && b → d ≡ eqb l.from (get_or seen (at + 2) 0) && c → e ≡ eqb l.marks (get_or seen (at + 1) 0) && d → f ≡ eqb l.form (get_or seen at 0) && e
        → f ≡ stand seen at (row_numbers l)
    row_stands h g p q r s t u =
        let z : at + 0 ≡ at = add-zero at in
        let n = row_numbers l in
        let g' = number_stands seen at 6 l.inside [] _ true (omega arith) refl (sym (and-true (eqb l.inside (get_or seen (at + 6) 0)))) in
        let a' = number_stands seen at 5 l.length (drop 6 n) a _ (omega arith) g' p in
        let b' = number_stands seen at 4 l.start (drop 5 n) b a (omega arith) a' q in
        let c' = number_stands seen at 3 l.to (drop 4 n) c b (omega arith) b' r in
        let d' = number_stands seen at 2 l.from (drop 3 n) d c (omega arith) c' s in
        let e' = number_stands seen at 1 l.marks (drop 2 n) e d (omega arith) d' t in
        rw z at (number_stands seen at 0 l.form (drop 1 n) f e (omega arith) e' (rw z u))

pub numbers_append : (a b : List LocationRow) → location_numbers (a ++ b) ≡ location_numbers a ++ location_numbers b
unfolding location_numbers
numbers_append [] b = refl
numbers_append (l ∷ a) b = ap (λ (z : List ℕ). row_numbers l ++ z) (numbers_append a b)

pub numbers_length : (a : List LocationRow) → length (location_numbers a) ≡ 7 * length a
unfolding location_numbers
numbers_length [] = refl
numbers_length (l ∷ a) = rw (numbers_length a) (omega arith)

pub rows_append : {seen old mid new : List ℕ} {p q r : Pen} {a b : List LocationRow} → Noted seen old p a mid q → Noted seen mid q b new r → Noted seen old p (a ++ b) new r
rows_append {seen} {old} {p = p} {q = q} {a = a} {b = b} f g =
    let to : 7 * q.row ≡ 7 * p.row + length (location_numbers a) = omega (arith, f.row, numbers_length a) in
    record {
      put = g.put ∙ rw (f.put, to, numbers_append) (sets_append (location_numbers a) (location_numbers b) old (7 * p.row));
      row = g.row ∙ omega (arith, f.row, length-append a b);
      same =
          g.same ∙ rw (f.same, to, numbers_append, stand_append)
          (and_assoc p.same (stand seen (7 * p.row) (location_numbers a)) (stand seen (7 * p.row + length (location_numbers a)) (location_numbers b)));
    }

pub rows_none : (seen old : List ℕ) (p : Pen) → Noted seen old p [] old p
unfolding location_numbers
rows_none seen old p = record { put = refl; row = sym (add-zero p.row); same = sym (and-true p.same) }

pub row_noted : {seen old new : List ℕ} {pen to : Pen} {l : LocationRow} {here : Bool} → new ≡ sets old (7 * pen.row) (row_numbers l) → here ≡ stand seen (7 * pen.row) (row_numbers l)
    → to.row ≡ pen.row + 1 → to.same ≡ pen.same && here → Noted seen old pen (l ∷ []) new to
unfolding location_numbers
row_noted {pen = pen} put h e f = record { put = put; row = e; same = f ∙ ap (λ (b : Bool). pen.same && b) h }
