-- Rows: each piece that was laid out is read again from its row and the store, and stands inside the store; and rows of numbers alone stand one after the other.
use Rattle.std.specs.Prelude.{ℕ, zero, suc, ◌+◌, ◌-◌, ◌*◌, Bool, true, false, ◌≡◌, get_or, eqb}
use Rattle.std.proofs.Common.{arith, add_comm, ap, length-append, ne_eqb}
use Rattle.std.proofs.Math.Numerals.{unary_clauses}
use Rattle.std.proofs.Math.Path.{refl}
use mathlib.Core.List.{List, [], ◌∷◌, ◌++◌}
use Rattle.std.proofs.Math.ListN.{length}
use Rattle.spec_format.specs.Bytes.{pick, absent, is, each}
use Rattle.spec_format.specs.Rooms.{Piece, always, perhaps, piece_text, piece_row, pieces_text, pieces_row, texts_of, rows_of, span_fine, text_in, perhaps_in, rows_from, rows_fine}
use Rattle.spec_rooms.specs.Held.{Held, held_left, held_right, held_head, held_tail, held_cut, held_fine, held_at}

-- a piece, read at a place of a room of rows
abbrev pub Reads : List ℕ → List ℕ → ℕ → Piece → Type 0
Reads S R at (always t) = text_in S R at ≡ t
Reads S R at (perhaps m) = perhaps_in S R at ≡ m

-- its span lies in a store of n bytes
abbrev pub Inside : ℕ → List ℕ → ℕ → Piece → Type 0
Inside n R at (always t) = span_fine n (get_or R at 0) (get_or R (at + 1) 0) ≡ true
Inside n R at (perhaps m) = pick (eqb (get_or R (at + 1) 0) 0) true (span_fine n (get_or R at 0) (get_or R (at + 1) 0 - 1)) ≡ true

pub record Good (S R : List ℕ) (at : ℕ) (p : Piece) : Type 0 where
  pub reads : Reads S R at p
  pub inside : Inside (length S) R at p

module _ (S R : List ℕ) (start at : ℕ) where
  piece_good : (p : Piece) → Held S start (piece_text p) → Held R at (piece_row start p) → Good S R at p
  piece_good (always t) h k =
      let a : get_or R at 0 ≡ start = held_head R at start (length t ∷ []) k in
      let b : get_or R (at + 1) 0 ≡ length t = held_head R (at + 1) (length t) [] (held_tail R at start (length t ∷ []) k) in
      record { reads = rw (a, b) (held_cut S start t h); inside = rw (a, b) (held_fine S start t h) }
  piece_good (perhaps absent) h k =
      let b : get_or R (at + 1) 0 ≡ 0 = held_head R (at + 1) 0 [] (held_tail R at 0 (0 ∷ []) k) in
      record { reads = rw b; inside = rw b }
  piece_good (perhaps (is t)) h k =
      let a : get_or R at 0 ≡ start = held_head R at start (suc (length t) ∷ []) k in
      let b : get_or R (at + 1) 0 ≡ suc (length t) = held_head R (at + 1) (suc (length t)) [] (held_tail R at start (suc (length t) ∷ []) k) in
      let c : eqb (suc (length t)) 0 ≡ false = ne_eqb (suc (length t)) 0 (λ q. omega arith) in
      let d : suc (length t) - 1 ≡ length t = omega arith in
      record { reads = rw (a, b) (ap is (held_cut S start t h)); inside = rw (a, b, c, d) (held_fine S start t h) }

row_two : (start : ℕ) (p : Piece) → length (piece_row start p) ≡ 2
row_two start (always t) = refl
row_two start (perhaps absent) = refl
row_two start (perhaps (is t)) = refl

-- k numbers after the row's start
abbrev pub further : ℕ → ℕ → ℕ
further at zero = at
further at (suc k) = at + suc k

further_is : (at k : ℕ) → further at k ≡ at + k
further_is at zero = omega arith
further_is at (suc k) = refl

-- each piece of a row is good, the first of them k numbers after the row's start
abbrev pub AllGood : List ℕ → List ℕ → ℕ → ℕ → List Piece → Type 0
AllGood S R at k [] = Unit
AllGood S R at k (p ∷ ps) = Good S R (further at k) p × AllGood S R at (2 + k) ps

pub row_good :
    (S R : List ℕ) (at : ℕ) (ps : List Piece) (start k : ℕ) → Held S start (pieces_text ps) → Held R (further at k) (pieces_row start ps) → AllGood S R at k ps
unfolding pieces_text pieces_row
row_good S R at [] start k h g = tt
row_good S R at (p ∷ ps) start k h g =
    let rest : List ℕ = pieces_row (start + length (piece_text p)) ps in
    let e : further at k + length (piece_row start p) ≡ further at (2 + k) = omega (arith, row_two start p, further_is at k, further_is at (2 + k)) in (
      piece_good S R start (further at k) p (held_left S start (piece_text p) (pieces_text ps) h) (held_left R (further at k) (piece_row start p) rest g),
      row_good S R at ps (start + length (piece_text p)) (2 + k) (held_right S start (piece_text p) (pieces_text ps) h)
          (held_at R _ _ rest e (held_right R (further at k) (piece_row start p) rest g)),
    )

-- ---- rows

pub pieces_long : (start : ℕ) (ps : List Piece) → length (pieces_row start ps) ≡ 2 * length ps
unfolding pieces_row
pieces_long start [] = refl
pieces_long start (p ∷ ps) =
    simp length-append (omega (arith, row_two start p, pieces_long (start + length (piece_text p)) ps))

-- each row passes P, from row i on, of w numbers each
abbrev pub EachRow : {A : Type 0} → (ℕ → A → Type 0) → ℕ → ℕ → List A → Type 0
EachRow P w i [] = Unit
EachRow P w i (x ∷ xs) = P (w * i) x × EachRow P w (i + 1) xs

-- How a room is laid out: rows of w numbers one after the other. What stands in a row may hang on those before it (`S`): where its texts start, or nothing at all
pub record InRows {S A : Type 0} (laid : S → List A → List ℕ) (w : ℕ) : Type 0 where
  pub row : S → A → List ℕ
  pub next : S → A → S
  pub wide : (s : S) (x : A) → length (row s x) ≡ w
  pub none : (s : S) → laid s [] ≡ []
  pub more : (s : S) (x : A) (xs : List A) → laid s (x ∷ xs) ≡ row s x ++ laid (next s x) xs

-- THE ONE LAW OF ROOMS OF ROWS: such a room has w numbers for each row, and each row stands where its number says
module _ {S A : Type 0} (laid : S → List A → List ℕ) (w : ℕ) (k : InRows laid w) where
  pub laid_long : (s : S) (xs : List A) → length (laid s xs) ≡ w * length xs
  laid_long s [] = rw (k.none s) (simp unary_clauses)
  laid_long s (x ∷ xs) =
      rw (k.more s x xs, length-append (k.row s x) (laid (k.next s x) xs), k.wide s x, laid_long (k.next s x) xs)
      (simp unary_clauses (add_comm w (w * length xs)))

  -- P follows of a row that stands in the room R, and from what is known of the rows from there on, Q, which goes on to the next
  pub laid_good :
      (R : List ℕ) (Q : S → List A → Type 0) (P : ℕ → A → Type 0) →
      ((s : S) (x : A) (xs : List A) (at : ℕ) → Q s (x ∷ xs) → Held R at (k.row s x) → P at x × Q (k.next s x) xs) →
      (xs : List A) (s : S) (i : ℕ) → Q s xs → Held R (w * i) (laid s xs) → EachRow P w i xs
  laid_good R Q P step [] s i q h = tt
  laid_good R Q P step (x ∷ xs) s i q h =
      let here : Held R (w * i) (k.row s x ++ laid (k.next s x) xs) = rw (k.more s x xs) at h in
      let one = step s x xs (w * i) q (held_left R (w * i) (k.row s x) (laid (k.next s x) xs) here) in
      let e : w * i + length (k.row s x) ≡ w * (i + 1) = rw (k.wide s x) (simp unary_clauses) in (
        one.0,
        laid_good R Q P step xs (k.next s x) (i + 1) one.1
            (held_at R _ _ (laid (k.next s x) xs) e (held_right R (w * i) (k.row s x) (laid (k.next s x) xs) here)),
      )

-- rows of texts
module _ {A : Type 0} (f : A → List Piece) (w : ℕ) (wide : (x : A) (start : ℕ) → length (pieces_row start (f x)) ≡ w) where
  texts_in_rows : InRows (rows_of f) w
  unfolding rows_of
  texts_in_rows =
      record {
        row = λ start x. pieces_row start (f x);
        next = λ start x. start + length (pieces_text (f x));
        wide = λ start x. wide x start;
        none = λ start. refl;
        more = λ start x xs. refl;
      }

  pub rows_long : (start : ℕ) (xs : List A) → length (rows_of f start xs) ≡ w * length xs
  rows_long start xs = laid_long (rows_of f) w texts_in_rows start xs

  pub rows_good :
      (S R : List ℕ) (xs : List A) (start i : ℕ) → Held S start (texts_of f xs) → Held R (w * i) (rows_of f start xs) →
      EachRow (λ at x. AllGood S R at 0 (f x)) w i xs
  unfolding texts_of texts_in_rows
  rows_good S R xs start i h k =
      laid_good (rows_of f) w texts_in_rows R (λ start xs. Held S start (texts_of f xs)) (λ at x. AllGood S R at 0 (f x))
      (λ start x xs at q row. (
        row_good S R at (f x) start 0 (held_left S start (pieces_text (f x)) (texts_of f xs) q) row,
        held_right S start (pieces_text (f x)) (texts_of f xs) q,
      ))
      xs start i h k

-- rows of numbers alone
module _ {A : Type 0} (g : A → List ℕ) (w : ℕ) (wide : (x : A) → length (g x) ≡ w) where
  numbers_in_rows : InRows {S = Unit} (λ _ xs. each g xs) w
  numbers_in_rows = record { row = λ _ x. g x; next = λ _ x. tt; wide = λ _ x. wide x; none = λ _. refl; more = λ _ x xs. refl }

  pub numbers_long : (xs : List A) → length (each g xs) ≡ w * length xs
  numbers_long xs = laid_long (λ _ xs. each g xs) w numbers_in_rows tt xs

  pub numbers_held : (R : List ℕ) (xs : List A) (i : ℕ) → Held R (w * i) (each g xs) → EachRow (λ at x. Held R at (g x)) w i xs
  unfolding numbers_in_rows
  numbers_held R xs i h = laid_good (λ _ xs. each g xs) w numbers_in_rows R (λ _ xs. Unit) (λ at x. Held R at (g x)) (λ _ x xs at q row. (row, tt)) xs tt i tt h

module _ {A : Type 0} (P : ℕ → A → Type 0) (w : ℕ) where
  pub rows_read_lem : (g : ℕ → A) → ((at : ℕ) (x : A) → P at x → g at ≡ x) → (i : ℕ) (xs : List A) → EachRow P w i xs → rows_from g w i (length xs) ≡ xs
  unfolding rows_from
  rows_read_lem g one i [] h = refl
  rows_read_lem g one i (x ∷ xs) h = rw (one (w * i) x h.0, rows_read_lem g one (i + 1) xs h.1)

  pub rows_fine_lem : (g : ℕ → Bool) → ((at : ℕ) (x : A) → P at x → g at ≡ true) → (i : ℕ) (xs : List A) → EachRow P w i xs → rows_fine g w i (length xs) ≡ true
  unfolding rows_fine
  rows_fine_lem g one i [] h = refl
  rows_fine_lem g one i (x ∷ xs) h = rw (one (w * i) x h.0) (rows_fine_lem g one (i + 1) xs h.1)
