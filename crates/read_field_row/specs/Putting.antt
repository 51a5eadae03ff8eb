-- Pieces put one after the other. Assumes nothing.
use Prim.Native.Nat.{ℕ, suc, ◌+◌}
use Rattle.std.specs.Prelude.{◌≡◌, refl, Bool, List, [], ◌∷◌, ◌++◌, length}
use Rattle.std.proofs.Common.{sym, ap, ◌∙◌, subst, append_assoc, append-nil, add-zero, arith, length-append}
use Rattle.spec_format.specs.Bytes.{absent, is}
use Rattle.spec_format.specs.Rooms.{Piece, always, perhaps, piece_text, piece_row, pieces_text, pieces_row}
use Rattle.base_pen.specs.Pen.{Wrote, Writes, sets_append}
use Rattle.read_field_entry.specs.declared.Entry.{Entry}
use Rattle.read_field_optional.specs.declared.MayEntry.{MayEntry}
use Rattle.read_field_optional.specs.declared.MayEntry.TheVariants as may
use Rattle.read_field_row.specs.declared.Pens.{Pens}
use Rattle.read_field_row.specs.Pieces.{always_piece, may_piece, comment_found, Ready, MayReady}
use Rattle.read_field_row.specs.Puts.{bytes_of, numbers_of, Room, Puts, Texted}

-- ---- lists of pieces

pub bytes_length : (ps : List Piece) → length (pieces_text ps) ≡ bytes_of ps
unfolding pieces_text
bytes_length [] = refl
bytes_length (p ∷ ps) = length-append (piece_text p) (pieces_text ps) ∙ ap (λ (n : ℕ). length (piece_text p) + n) (bytes_length ps)

row_length : (at : ℕ) (p : Piece) → length (piece_row at p) ≡ 2
row_length at (always t) = refl
row_length at (perhaps absent) = refl
row_length at (perhaps (is t)) = refl

pub numbers_length : (at : ℕ) (ps : List Piece) → length (pieces_row at ps) ≡ numbers_of ps
unfolding pieces_row
numbers_length at [] = refl
numbers_length at (p ∷ ps) =
    omega (arith, length-append (piece_row at p) (pieces_row (at + length (piece_text p)) ps), row_length at p, numbers_length (at + length (piece_text p)) ps)

pub bytes_append : (ps qs : List Piece) → bytes_of (ps ++ qs) ≡ bytes_of ps + bytes_of qs
bytes_append [] qs = omega arith
bytes_append (p ∷ ps) qs = omega (arith, bytes_append ps qs)

pub numbers_append : (ps qs : List Piece) → numbers_of (ps ++ qs) ≡ numbers_of ps + numbers_of qs
numbers_append [] qs = omega arith
numbers_append (p ∷ ps) qs = omega (arith, numbers_append ps qs)

pub text_append : (ps qs : List Piece) → pieces_text (ps ++ qs) ≡ pieces_text ps ++ pieces_text qs
unfolding pieces_text
text_append [] qs = refl
text_append (p ∷ ps) qs = ap (λ (l : List ℕ). piece_text p ++ l) (text_append ps qs) ∙ sym (append_assoc (piece_text p) (pieces_text ps) (pieces_text qs))

pub rows_append : (at : ℕ) (ps qs : List Piece) → pieces_row at (ps ++ qs) ≡ pieces_row at ps ++ pieces_row (at + bytes_of ps) qs
unfolding pieces_row
rows_append at [] qs = rw (add-zero at)
rows_append at (p ∷ ps) qs =
    ap (λ (l : List ℕ). piece_row at p ++ l) (rows_append (at + length (piece_text p)) ps qs) ∙
    sym (append_assoc (piece_row at p) (pieces_row (at + length (piece_text p)) ps) (pieces_row (at + length (piece_text p) + bytes_of ps) qs)) ∙
    ap (λ (n : ℕ). (piece_row at p ++ pieces_row (at + length (piece_text p)) ps) ++ pieces_row n qs) (omega arith)

-- ---- what was put

pub puts_none : (t r : List ℕ) (pens : Pens) → Puts t r pens [] t r pens
unfolding pieces_text pieces_row
puts_none t r pens = record { texts = refl; rows = refl; text = sym (add-zero pens.text); row = sym (add-zero pens.row) }

pub puts_append : {t r u v x y : List ℕ} {a b c : Pens} {ps qs : List Piece} → Puts t r a ps u v b → Puts u v b qs x y c → Puts t r a (ps ++ qs) x y c
puts_append {t} {r} {u} {v} {x} {y} {a} {b} {c} {ps} {qs} p q =
    record {
      texts = q.texts ∙ rw (p.texts, p.text, ← bytes_length ps, sets_append (pieces_text ps) (pieces_text qs) t a.text, text_append ps qs);
      rows =
          q.rows ∙
          rw (p.rows, p.row, p.text, ← numbers_length a.text ps, sets_append (pieces_row a.text ps) (pieces_row (a.text + bytes_of ps) qs) r a.row, rows_append a.text ps qs);
      text = omega (arith, p.text, q.text, bytes_append ps qs);
      row = omega (arith, p.row, q.row, numbers_append ps qs);
    }

-- ---- one piece

module _ (t r : List ℕ) (pens : Pens) (text : List ℕ) (n : ℕ) (u v : List ℕ) where
  pub texted : (next row : ℕ) → Room pens (always text ∷ []) → Writes t pens.text text u next → Writes r pens.row (pens.text ∷ n ∷ []) v row
      → Texted t r pens text n u v (record { text = next; row = row })
  texted next row room w z =
      let a : Wrote t pens.text text u next = w.fit (omega (arith, room.text)) in
      let b : Wrote r pens.row (pens.text ∷ n ∷ []) v row = z.fit (omega (arith, room.row)) in
      record { texts = a.is; rows = b.is; next = a.to; row = b.to }

  module _ (to : Pens) (p : Texted t r pens text n u v to) where
    pub puts_always : n ≡ length text → Puts t r pens (always text ∷ []) u v to
    unfolding pieces_text pieces_row
    puts_always e = record { texts = rw (append-nil text) p.texts; rows = rw (← e) p.rows; text = omega (arith, p.next); row = omega (arith, p.row) }

    pub puts_perhaps : n ≡ length text + 1 → Puts t r pens (perhaps (is text) ∷ []) u v to
    unfolding pieces_text pieces_row
    puts_perhaps e =
        let f : suc (length text) ≡ n = omega (arith, e) in
        record { texts = rw (append-nil text) p.texts; rows = rw f p.rows; text = omega (arith, p.next); row = omega (arith, p.row) }

pub puts_absent : (t r : List ℕ) (pens : Pens) (v : List ℕ) (row : ℕ) → Room pens (perhaps absent ∷ []) → Writes r pens.row (0 ∷ 0 ∷ []) v row
    → Puts t r pens (perhaps absent ∷ []) t v (record { text = pens.text; row = row })
unfolding pieces_text pieces_row
puts_absent t r pens v row room w =
    let b : Wrote r pens.row (0 ∷ 0 ∷ []) v row = w.fit (omega (arith, room.row)) in
    record { texts = refl; rows = b.is; text = omega arith; row = b.to }

-- where there is an entry
module _ (s : List ℕ) (keep : Bool) (e : MayEntry) (x : Entry) (q : e ≡ may.Is x) where
  pub may_ready : MayReady s keep e → Ready s keep x
  may_ready h = subst (MayReady s keep) q h

  pub may_room : (pens : Pens) → Room pens (may_piece s keep e ∷ []) → Room pens (always_piece s keep x ∷ [])
  may_room pens h = let w : Room pens (may_piece s keep (may.Is x) ∷ []) = rw q at h in record { text = w.text; row = w.row }

  pub commented_room : (pens : Pens) → Room pens (comment_found s e) → Room pens (comment_found s (may.Is x))
  commented_room pens h = rw q at h

pub absent_room : (s : List ℕ) (keep : Bool) (e : MayEntry) → e ≡ may.Absent → (pens : Pens) → Room pens (may_piece s keep e ∷ []) → Room pens (perhaps absent ∷ [])
absent_room s keep e q pens h = let w : Room pens (may_piece s keep may.Absent ∷ []) = rw q at h in record { text = w.text; row = w.row }

pub plus_one : {n m : ℕ} → n ≡ m → n + 1 ≡ m + 1
plus_one e = rw e
