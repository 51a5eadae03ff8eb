-- A part of a slice, byte by byte, and the loops that walk one while a test holds.
use Prim.Native.Nat.{ℕ, zero, suc, ◌+◌, ◌-◌, ◌≤◌, ◌<◌}
use mathlib.Core.Path.{◌≡◌, sym, ap, ◌∙◌}
use mathlib.Core.Bool.{Bool, true, false, not}
use mathlib.Core.List.{List, [], ◌∷◌}
use native.Mathlib.Numerals.{add-one}
use native.Mathlib.Nat.{add-zero, sub-zero, zero-sub, suc-sub-suc}
use native.Mathlib.Omega.{arith}
use borrow.Author.Tests.{not-true, not-false}
use lib.ListN.{length, get_or, take, drop}
use lib.Seq.{drop-cons, drop-drop, take-take, take-nil}
use Rattle.spec_format.specs.Bytes.{all, blank, not_blank}
use Rattle.read_locus_tokens.specs.Parts.{cut, passed}

module _ (s : List ℕ) (i to : ℕ) where
  pub cut_more : i < to → to ≤ length s → cut s i to ≡ get_or s i 0 ∷ cut s (i + 1) to
  cut_more h k =
      let e : to - i ≡ suc (to - (i + 1)) = omega arith in
      let f : i < length s = omega arith in
      rw (e, drop-cons s i 0 f, add-one)

  pub cut_end : to ≤ i → cut s i to ≡ []
  cut_end h = let e : to - i ≡ 0 = omega arith in rw e

pub drop_take : (k n : ℕ) (l : List ℕ) → drop k (take n l) ≡ take (n - k) (drop k l)
drop_take zero n l = rw (sub-zero n)
drop_take (suc k) zero l = rw (zero-sub (suc k))
drop_take (suc k) (suc n) [] = rw (take-nil {A = ℕ} (suc n - suc k))
drop_take (suc k) (suc n) (x ∷ l) = rw (suc-sub-suc n k) (drop_take k n l)

module _ (s : List ℕ) (at r to : ℕ) where
  pub cut_rest : at ≤ r → drop (r - at) (cut s at to) ≡ cut s r to
  cut_rest h =
      let e : at + (r - at) ≡ r = omega arith in
      let f : to - at - (r - at) ≡ to - r = omega arith in
      rw (drop_take (r - at) (to - at) (drop at s), drop-drop (r - at) at s, e, f)

  pub cut_front : at ≤ r → r ≤ to → take (r - at) (cut s at to) ≡ cut s at r
  cut_front h k = take-take (r - at) (to - at) (drop at s) (omega arith)

module _ (p : ℕ → Bool) (s : List ℕ) (at i to : ℕ) where
  pub scan_go : (r : Bool) → at + passed p (cut s at to) ≡ i + passed p (cut s i to) → i < to → to ≤ length s → r ≡ p (get_or s i 0) → r ≡ true →
      at + passed p (cut s at to) ≡ i + 1 + passed p (cut s (i + 1) to)
  unfolding passed
  scan_go r inv h k e t = inv ∙ rw (cut_more s i to h k, passed, ← e, t) (omega arith)

  pub scan_out : (r : Bool) → at + passed p (cut s at to) ≡ i + passed p (cut s i to) → i < to → to ≤ length s → r ≡ p (get_or s i 0) → r ≡ false →
      i ≡ at + passed p (cut s at to)
  unfolding passed
  scan_out r inv h k e t = sym (inv ∙ rw (cut_more s i to h k, passed, ← e, t) (add-zero i))

  pub scan_done : at + passed p (cut s at to) ≡ i + passed p (cut s i to) → to ≤ i → i ≡ at + passed p (cut s at to)
  unfolding passed
  scan_done inv h = sym (inv ∙ rw (cut_end s i to h) (add-zero i))

  pub all_go : (o r : Bool) → o ≡ all p (cut s i to) → i < to → to ≤ length s → r ≡ p (get_or s i 0) → not r ≡ false → o ≡ all p (cut s (i + 1) to)
  all_go o r inv h k e t = inv ∙ rw (cut_more s i to h k, ← e, not-false r t)

  pub all_no : (o r : Bool) → o ≡ all p (cut s i to) → i < to → to ≤ length s → r ≡ p (get_or s i 0) → not r ≡ true → false ≡ o
  all_no o r inv h k e t = sym (inv ∙ rw (cut_more s i to h k, ← e, not-true r t))

  pub all_done : (o : Bool) → o ≡ all p (cut s i to) → to ≤ i → true ≡ o
  all_done o inv h = sym (inv ∙ rw (cut_end s i to h))

-- the same for a word, which blanks end; r is what the test for a blank returned
module _ (s : List ℕ) (at i to : ℕ) where
  pub word_go : (r : Bool) → at + passed not_blank (cut s at to) ≡ i + passed not_blank (cut s i to) → i < to → to ≤ length s → r ≡ blank (get_or s i 0) → r ≡ false →
      at + passed not_blank (cut s at to) ≡ i + 1 + passed not_blank (cut s (i + 1) to)
  word_go r inv h k e t = scan_go not_blank s at i to (not r) inv h k (ap not e) (ap not t)

  pub word_out : (r : Bool) → at + passed not_blank (cut s at to) ≡ i + passed not_blank (cut s i to) → i < to → to ≤ length s → r ≡ blank (get_or s i 0) → r ≡ true →
      i ≡ at + passed not_blank (cut s at to)
  word_out r inv h k e t = scan_out not_blank s at i to (not r) inv h k (ap not e) (ap not t)

pub ruleset cutting = (scan_go, scan_out, scan_done, all_go, all_no, all_done, word_go, word_out)
