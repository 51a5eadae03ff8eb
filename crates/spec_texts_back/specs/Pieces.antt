-- The small readers read back what stands there: words, spaces, lines.
use Rattle.std.specs.Prelude.{ℕ, zero, suc, Bool, true, ◌&&◌, not, ◌≡◌, refl, List, [], ◌∷◌, ◌++◌, eqb, leb}
use Rattle.std.proofs.Common.{arith, eq-eqb, ne_eqb, leb-true}
use Rattle.std.proofs.lemmas.Bool.{not-true}
use Rattle.spec_format.specs.Bytes.{spaces, starts, all, but, visible}
use Rattle.spec_format.specs.Readers.{got, tag, until, spaces1, line}
use Rattle.spec_texts_back.specs.Tests.{and_left, and_right, all_head, all_tail}

pub tag_back : (w s : List ℕ) → tag w (w ++ s) ≡ got tt s
unfolding tag
tag_back [] s = refl
tag_back (c ∷ w) s = cc (eq-eqb c c refl, tag_back w s)

pub until_back : (p : ℕ → Bool) (w x : List ℕ) → all (λ b. not (p b)) w ≡ true → starts p x ≡ true → until p (w ++ x) ≡ got w x
unfolding until
until_back p [] [] h e = cc
until_back p [] (c ∷ x) h e = cc
until_back p (b ∷ w) x h e = cc (not-true (p b) (all_head (λ b. not (p b)) b w h), until_back p w x (all_tail (λ b. not (p b)) b w h) e)

-- a test that a space passes
pub all_spaces : (p : ℕ → Bool) → p 32 ≡ true → (n : ℕ) → all p (spaces n) ≡ true
all_spaces p e zero = refl
all_spaces p e (suc n) = cc (all_spaces p e n)

pub spaces_back : (n : ℕ) (x : List ℕ) → starts (but 32) x ≡ true → spaces1 (spaces (suc n) ++ x) ≡ got (spaces (suc n)) x
spaces_back n x e = cc (until_back (but 32) (spaces (suc n)) x (all_spaces (λ b. not (but 32 b)) refl (suc n)) e)

-- neither LF nor CR
abbrev pub no_end : ℕ → Bool
no_end b = not (eqb b 10) && not (eqb b 13)

pub line_back : (x rest : List ℕ) → all no_end x ≡ true → line (x ++ 10 ∷ rest) ≡ got x rest
unfolding line
line_back [] rest h = refl
line_back (b ∷ x) rest h =
    let n : no_end b ≡ true = all_head no_end b x h in
    cc (not-true (eqb b 10) (and_left (not (eqb b 10)) _ n), not-true (eqb b 13) (and_right (not (eqb b 10)) _ n), line_back x rest (all_tail no_end b x h))

-- what bytes from 33 on are not
pub visible_no_end : (b : ℕ) → visible b ≡ true → no_end b ≡ true
visible_no_end b h =
    let l = leb-true 33 b (and_left (leb 33 b) _ h) in
    cc (ne_eqb b 10 (λ e. omega arith), ne_eqb b 13 (λ e. omega arith))

pub visible_but : (b : ℕ) → visible b ≡ true → but 32 b ≡ true
visible_but b h = let l = leb-true 33 b (and_left (leb 33 b) _ h) in cc (ne_eqb b 32 (λ e. omega arith))
