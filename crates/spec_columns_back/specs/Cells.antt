-- A line that passes the tests of its columns is its cells, one after the other.
use Rattle.std.specs.Prelude.{ℕ, zero, suc, ◌+◌, ◌≤◌, Bool, true, false, ◌&&◌, ◌≡◌, refl, List, [], ◌∷◌, ◌++◌, length, take, drop, eqb}
use Rattle.std.proofs.Common.{arith, sym, ap, ◌∙◌, length-append, take-append-drop, drop-drop, eqb-true}
use Rattle.spec_format.specs.Bytes.{spaces, all, same, among}
use Rattle.spec_format.specs.Impossible.{impossible}
use Rattle.spec_texts_back.specs.Tests.{and_left, and_right}

pub same_is : (a b : List ℕ) → same a b ≡ true → a ≡ b
same_is [] [] h = refl
same_is [] (c ∷ b) h = impossible cc
same_is (c ∷ a) [] h = impossible cc
same_is (c ∷ a) (e ∷ b) h = cc (eqb-true c e (and_left (eqb c e) _ h), same_is a b (and_right (eqb c e) _ h))

-- where the first test is that n columns after the first a are y, and the others say that z stands after them, y and z stand there
pub cell :
    (line : List ℕ) (a n : ℕ) (y z : List ℕ) (others : Bool) → (same (take n (drop a line)) y && others) ≡ true →
    (others ≡ true → drop (a + n) line ≡ z) → drop a line ≡ y ++ z
cell line a n y z others h e =
    let p : take n (drop a line) ≡ y = same_is (take n (drop a line)) y (and_left (same (take n (drop a line)) y) others h) in
    sym (take-append-drop n (drop a line)) ∙ rw (p, drop-drop n a line, e (and_right (same (take n (drop a line)) y) others h))

-- and where it is the last
pub last_cell : (line : List ℕ) (a : ℕ) (w : List ℕ) → (same (drop a line) w && true) ≡ true → drop a line ≡ w
last_cell line a w h = same_is (drop a line) w (and_left (same (drop a line) w) true h)

take_short : (n : ℕ) (l : List ℕ) → length (take n l) ≤ n
take_short zero l = omega arith
take_short (suc n) [] = omega arith
take_short (suc n) (b ∷ l) = omega (arith, take_short n l)

-- what stands in n columns is no longer than that
pub cell_short : (n : ℕ) (l w z : List ℕ) → same (take n l) (w ++ z) ≡ true → length w ≤ n
cell_short n l w z h = omega (arith, take_short n l, ap length (same_is (take n l) (w ++ z) h), length-append w z)

-- ---- gaps

pub spaces_join : (m n : ℕ) (x : List ℕ) → spaces m ++ (spaces n ++ x) ≡ spaces (m + n) ++ x
spaces_join zero n x = let e : 0 + n ≡ n = omega arith in rw e
spaces_join (suc m) n x = let e : suc m + n ≡ suc (m + n) = omega arith in rw e (ap (λ (y : List ℕ). 32 ∷ y) (spaces_join m n x))

-- ---- words

-- what holds of each word of a list holds of one among them
pub all_among : (p : List ℕ → Bool) (words : List (List ℕ)) (w : List ℕ) → all p words ≡ true → among w words ≡ true → p w ≡ true
all_among p [] w h k = impossible cc
all_among p (x ∷ words) w h k = go (all_among p words w (and_right (p x) _ h)) (same w x) refl
  where
    go : (among w words ≡ true → p w ≡ true) → (b : Bool) → same w x ≡ b → p w ≡ true
    go ih true e = rw (same_is w x e) (and_left (p x) _ h)
    go ih false e = ih (cc)
