-- The letters: ORIGIN's line and the numbered lines are read as the letters that they were written from.
use Rattle.std.specs.Prelude.{ℕ, suc, ◌-◌, ◌%◌, ◌≤◌, Bool, true, false, ◌&&◌, ◌≡◌, refl, List, [], ◌∷◌, ◌++◌, length, eqb, leb}
use Rattle.std.proofs.Common.{arith, append_assoc, leb-true, le-leb, ne_eqb}
use Rattle.std.proofs.lemmas.Bool.{lt-leb, not-true}
use Rattle.spec_format.specs.Bytes.{bytes, spaces, all, but, digit, letter, digits, decimal}
use Rattle.spec_format.specs.Readers.{got, tag, until, line_end}
use Rattle.spec_format.specs.Origin.{origin_tag, at_slash, skipped, letters}
use Rattle.spec_format.specs.Write.{right_aligned, line_start, ten_start, letter_lines, origin_lines}
use Rattle.spec_texts_back.specs.Tests.{and_left, and_right, all_head, all_tail, all_append, all_imp}
use Rattle.spec_texts_back.specs.Pieces.{all_spaces}
use Rattle.spec_record_back.specs.Decimals.{all_digits}

-- ---- which bytes are kept, and which are skipped

not_letter : (b : ℕ) → b ≤ 64 → letter b ≡ false
not_letter b h = cc (lt-leb 65 b (omega arith), lt-leb 97 b (omega arith))

at_slash_lem : (rest : List ℕ) → letters (10 ∷ 47 ∷ rest) ≡ at_slash [] (47 ∷ rest)
unfolding letters
at_slash_lem rest = refl

-- skipped, and no letter or slash
abbrev pub passed : ℕ → Bool
passed b = skipped b && (leb b 64 && but 47 b)

pub digit_passed : (b : ℕ) → digit b ≡ true → passed b ≡ true
digit_passed b h =
    let l : 48 ≤ b = leb-true 48 b (and_left (leb 48 b) _ h) in
    let u : b ≤ 57 = leb-true b 57 (and_right (leb 48 b) _ h) in
    cc (le-leb b 64 (omega arith), ne_eqb b 47 (λ e. omega arith))

skip_one : (b : ℕ) (x : List ℕ) → passed b ≡ true → letters (b ∷ x) ≡ letters x
unfolding letters
skip_one b x h =
    let s : skipped b ≡ true = and_left (skipped b) _ h in
    let k = and_right (skipped b) _ h in
    cc (not_letter b (leb-true b 64 (and_left (leb b 64) _ k)), not-true (eqb b 47) (and_right (leb b 64) _ k))

pub skip : (w x : List ℕ) → all passed w ≡ true → letters (w ++ x) ≡ letters x
skip [] x h = refl
skip (b ∷ w) x h = cc (skip_one b (w ++ x) (all_head passed b w h), skip w x (all_tail passed b w h))

aligned_passed : (n i : ℕ) → all passed (right_aligned n (decimal i)) ≡ true
aligned_passed n i =
    all_append passed (spaces (n - length (decimal i))) (decimal i) (all_spaces passed refl (n - length (decimal i)))
    (all_imp digit passed digit_passed (decimal i) (all_digits 10 i))

start_passed : (i : ℕ) → all passed (line_start i) ≡ true
start_passed i = go (eqb (i % 60) 0) refl
  where
    go : (x : Bool) → eqb (i % 60) 0 ≡ x → all passed (line_start i) ≡ true
    go true p = rw p (aligned_passed 9 (suc i))
    go false p = rw p

ten_passed : (i : ℕ) → all passed (ten_start i) ≡ true
ten_passed i = go (eqb (i % 10) 0) refl
  where
    go : (x : Bool) → eqb (i % 10) 0 ≡ x → all passed (ten_start i) ≡ true
    go true p = rw p
    go false p = rw p

-- ---- the lines

regroup : (a b c d r : List ℕ) → (a ++ b ++ c ++ d) ++ r ≡ a ++ (b ++ (c ++ (d ++ r)))
regroup a b c d r = simp append_assoc

pub keep_letter : (b : ℕ) (x l r : List ℕ) → letter b ≡ true → letters x ≡ at_slash l r → letters (b ∷ x) ≡ at_slash (b ∷ l) r
unfolding letters
keep_letter b x l r h e = cc

-- the letters are read up to the slash
pub letters_back : (i : ℕ) (l rest : List ℕ) → all letter l ≡ true → letters (letter_lines i l ++ 47 ∷ rest) ≡ at_slash l (47 ∷ rest)
unfolding letter_lines
letters_back i [] rest h = at_slash_lem rest
letters_back i (b ∷ t) rest h =
    let x : List ℕ = letter_lines (suc i) t ++ 47 ∷ rest in
    rw (
      regroup (line_start i) (ten_start i) (b ∷ []) (letter_lines (suc i) t) (47 ∷ rest),
      skip (line_start i) (ten_start i ++ b ∷ x) (start_passed i),
      skip (ten_start i) (b ∷ x) (ten_passed i),
    )
    (keep_letter b x t (47 ∷ rest) (all_head letter b t h) (letters_back (suc i) t rest (all_tail letter b t h)))

-- ---- ORIGIN's own line ends where the first numbered line starts

unfoldable pub numbered : ℕ → List ℕ → List ℕ
numbered b t = spaces 8 ++ 49 ∷ 32 ∷ b ∷ letter_lines 1 t

numbered_is : (b : ℕ) (t : List ℕ) → letter_lines 0 (b ∷ t) ≡ 10 ∷ numbered b t
unfolding numbered letter_lines digits
numbered_is b t = refl

word_line : (z : List ℕ) → origin_tag (bytes "ORIGIN      " ++ 10 ∷ z) ≡ got [] z
unfolding origin_tag tag until line_end
word_line z = refl

pub origin_back : (b : ℕ) (t rest : List ℕ) → origin_tag (origin_lines (b ∷ t) ++ rest) ≡ got [] (numbered b t ++ rest)
unfolding origin_lines
origin_back b t rest = rw (numbered_is b t) (word_line (numbered b t ++ rest))

skip_end : (z : List ℕ) → letters (10 ∷ z) ≡ letters z
unfolding letters
skip_end z = refl

pub numbered_back : (b : ℕ) (t rest : List ℕ) → all letter (b ∷ t) ≡ true → letters (numbered b t ++ 47 ∷ rest) ≡ at_slash (b ∷ t) (47 ∷ rest)
numbered_back b t rest h = rw (numbered_is b t, skip_end) at (letters_back 0 (b ∷ t) rest h)
