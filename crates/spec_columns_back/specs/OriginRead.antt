-- EVERY ORIGIN BLOCK with the public columns is read as its letters.
use Rattle.std.specs.Prelude.{ℕ, zero, suc, ◌-◌, ◌*◌, ◌≤◌, Bool, true, ◌&&◌, not, ◌≡◌, refl, List, [], ◌∷◌, ◌++◌, length, take, drop, leb}
use Rattle.std.proofs.Common.{arith, ap, ◌∙◌, append_assoc, length-drop, take-append-drop, leb-true}
use Rattle.spec_format.specs.Bytes.{bytes, spaces, all, each, digit, letter, blank, not_blank}
use Rattle.spec_format.specs.Readers.{got, tag, line_end}
use Rattle.spec_format.specs.Origin.{origin_tag, at_slash, letters}
use Rattle.spec_public.specs.Public.{blocks, origin_columns}
use Rattle.spec_texts_back.specs.Tests.{and_left, and_right, all_head, all_tail, all_append, all_imp}
use Rattle.spec_texts_back.specs.Pieces.{until_back, all_spaces}
use Rattle.spec_texts_back.specs.FieldBack.{all_take, all_drop}
use Rattle.spec_record_back.specs.OriginBack.{passed, digit_passed, skip, keep_letter}
use Rattle.spec_columns_back.specs.Cells.{cell, last_cell}
use Rattle.spec_columns_back.specs.Further.{ended}

-- THE LINE OF THE WORD, with any blanks after it
pub origin_read : (blanks rest : List ℕ) → all blank blanks ≡ true → origin_tag (ended (bytes "ORIGIN" ++ blanks) ++ rest) ≡ got [] rest
unfolding origin_tag tag line_end
origin_read blanks rest h =
    rw (
      append_assoc blanks (10 ∷ []) rest,
      until_back not_blank blanks (10 ∷ rest) (all_imp blank (λ b. not (not_blank b)) (λ b e. cc) blanks h) refl,
    )

-- a numbered line: its number, its letters, and the line itself
pub record Numbered : Type 0 where
  pub count : List ℕ
  pub held : List ℕ
  pub line : List ℕ

-- it has the public columns, with digits and at most sixty letters
abbrev pub numbered_fine : Numbered → Bool
numbered_fine x = origin_columns x.count x.held x.line && (all digit x.count && (all letter x.held && leb (length x.held) 60))

keep_all : (w x l r : List ℕ) → all letter w ≡ true → letters x ≡ at_slash l r → letters (w ++ x) ≡ at_slash (w ++ l) r
keep_all [] x l r h e = e
keep_all (b ∷ w) x l r h e = keep_letter b (w ++ x) (w ++ l) r (all_head letter b w h) (keep_all w x l r (all_tail letter b w h) e)

-- a blank and the letters of a block
block_read :
    (f m l x t r : List ℕ) → f ++ m ≡ l → all letter f ≡ true → letters x ≡ at_slash (m ++ t) r → letters (32 ∷ (f ++ x)) ≡ at_slash (l ++ t) r
block_read f m l x t r j h e = skip (32 ∷ []) (f ++ x) refl ∙ rw (← j, append_assoc f m t) (keep_all f x (m ++ t) r h e)

-- n blocks hold ten letters each
blocks_read : (n : ℕ) (l x t r : List ℕ) → all letter l ≡ true → length l ≤ 10 * n → letters x ≡ at_slash t r → letters (blocks n l ++ x) ≡ at_slash (l ++ t) r
unfolding blocks
blocks_read zero [] x t r h k e = e
blocks_read zero (b ∷ l) x t r h k e = absurd (omega arith)
blocks_read (suc n) [] x t r h k e = e
blocks_read (suc n) (b ∷ l) x t r h k e =
    let m : List ℕ = drop 10 (b ∷ l) in
    ap letters (append_assoc (32 ∷ take 10 (b ∷ l)) (blocks n m) x) ∙
    block_read (take 10 (b ∷ l)) m (b ∷ l) (blocks n m ++ x) t r (take-append-drop 10 (b ∷ l)) (all_take letter 10 (b ∷ l) h)
    (blocks_read n m x t r (all_drop letter 10 (b ∷ l) h) (omega (arith, length-drop 10 (b ∷ l))) e)

line_is : (count held line : List ℕ) → origin_columns count held line ≡ true → line ≡ (spaces (9 - length count) ++ count) ++ blocks 6 held
line_is count held line h =
    cell line 0 9 (spaces (9 - length count) ++ count) (blocks 6 held) _ h (λ h. last_cell line 9 (blocks 6 held) h)

line_group : (a b e x : List ℕ) → ((a ++ b) ++ e) ++ x ≡ a ++ (b ++ (e ++ x))
line_group a b e x = simp append_assoc

line_read :
    (y : Numbered) (x t r : List ℕ) → numbered_fine y ≡ true → letters x ≡ at_slash t r → letters (ended y.line ++ x) ≡ at_slash (y.held ++ t) r
line_read y x t r h e =
    let count : List ℕ = y.count in
    let held : List ℕ = y.held in
    let c = and_left (origin_columns count held y.line) _ h in
    let h₂ = and_right (origin_columns count held y.line) _ h in
    let h₃ = and_right (all digit count) _ h₂ in
    let front : List ℕ = spaces (9 - length count) ++ count in
    let p : all passed front ≡ true =
    all_append passed (spaces (9 - length count)) count (all_spaces passed refl (9 - length count))
    (all_imp digit passed digit_passed count (and_left (all digit count) _ h₂)) in
    rw (line_is count held y.line c, line_group front (blocks 6 held) (10 ∷ []) x, skip front (blocks 6 held ++ (10 ∷ x)) p)
    (blocks_read 6 held (10 ∷ x) t r (and_left (all letter held) _ h₃) (leb-true (length held) 60 (and_right (all letter held) _ h₃))
    (skip (10 ∷ []) x refl ∙ e))

at_slash_lem : (rest : List ℕ) → letters (47 ∷ rest) ≡ at_slash [] (47 ∷ rest)
unfolding letters
at_slash_lem rest = refl

-- NUMBERED LINES are read as all their letters, up to the `/`
pub letters_read :
    (ys : List Numbered) (rest : List ℕ) → all numbered_fine ys ≡ true →
    letters (each (λ y. ended y.line) ys ++ 47 ∷ rest) ≡ at_slash (each (λ y. y.held) ys) (47 ∷ rest)
letters_read [] rest h = at_slash_lem rest
letters_read (y ∷ ys) rest h =
    rw (append_assoc (ended y.line) (each (λ y. ended y.line) ys) (47 ∷ rest))
    (line_read y (each (λ y. ended y.line) ys ++ 47 ∷ rest) (each (λ y. y.held) ys) (47 ∷ rest) (all_head numbered_fine y ys h)
    (letters_read ys rest (all_tail numbered_fine y ys h)))
