-- The laws of the escaped name, and of the name beside a length.
use Prim.Native.Nat.{ℕ, suc, ◌+◌, ◌-◌}
use mathlib.Core.Path.{◌≡◌, refl, sym, ap, ◌∙◌}
use mathlib.Core.Bool.{Bool, true, false, ◌&&◌, false≢true}
use mathlib.Core.List.{List, [], ◌∷◌}
use native.Mathlib.Omega.{arith}
use lib.ListN.{length, take, drop}
use lib.Dec.{ltb}
use borrow.Author.Tests.{lt-ltb}
use Rattle.spec_format.specs.Bytes.{some, all, printing, spaces, decimal}
use Rattle.spec_format.specs.Write.{words, joined, truncated, escaped_name}
use Rattle.write_locus_name.specs.Names.{name_test, printed_of, Kept}

-- ---- the escaped name

joined_some : (ws : List (List ℕ)) → ltb 1 (length ws) ≡ true → some (joined ws) ≡ true
unfolding joined
joined_some [] h = absurd (false≢true h)
joined_some (w ∷ []) h = absurd (false≢true h)
joined_some ([] ∷ (x ∷ xs)) h = refl
joined_some ((b ∷ w) ∷ (x ∷ xs)) h = refl

module _ (on two r : Bool) (name : List ℕ) (h : r ≡ (on && two)) (e : two ≡ ltb 1 (length (words name))) where
  escaped_when : (on && ltb 1 (length (words name))) ≡ r
  escaped_when = sym (h ∙ rw e)

  pub escaped_yes : r ≡ true → joined (words name) ≡ escaped_name on name
  escaped_yes t = rw (escaped_when, t)

  pub escaped_no : r ≡ false → name ≡ escaped_name on name
  escaped_no t = rw (escaped_when, t)

  two_there : (a b : Bool) → (a && b) ≡ true → b ≡ true
  two_there true b k = k
  two_there false b k = absurd (false≢true k)

  pub fine_yes : (x : Bool) → r ≡ true → x ≡ all printing (joined (words name)) → x ≡ name_test (escaped_name on name)
  fine_yes x t k = rw (escaped_when, t, joined_some (words name) (two_there on _ (escaped_when ∙ t))) k

  pub fine_no : (x p : Bool) → r ≡ false → x ≡ (ltb 0 (length name) && p) → p ≡ all printing name → x ≡ name_test (escaped_name on name)
  fine_no x p t k q = rw (escaped_when, t) (k ∙ rw (some_length name, q))
    where
      some_length : (l : List ℕ) → ltb 0 (length l) ≡ some l
      some_length [] = refl
      some_length (b ∷ l) = lt-ltb 0 (suc (length l)) (omega arith)

-- ---- beside a length

pub gap_is : (a at g d n : ℕ) (x : List ℕ) → g ≡ suc (27 - (a - at + d)) → d ≡ length (decimal n) → a ≡ at + length x
    → spaces g ≡ spaces (suc (27 - (length x + length (decimal n))))
gap_is a at g d n x h e f = let y : a - at ≡ length x = omega arith in rw (h, e, y)

pub cut_is : (name : List ℕ) (n d r : ℕ) (on escape : Bool) → d ≡ length (decimal n) → Kept on d name r
    → escaped_name escape (take (r - 0) (drop 0 name)) ≡ printed_of on escape (decimal n) name
cut_is name n d r on escape e k =
    let y : r - 0 ≡ r = omega arith in
    let z : take (r - 0) (drop 0 name) ≡ truncated on (length (decimal n)) name = rw (y, ← e) k.is in
    ap (λ (w : List ℕ). escaped_name escape w) z
