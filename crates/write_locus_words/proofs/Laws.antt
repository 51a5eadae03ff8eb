-- The laws by which the loops over a name go, and the answers of the functions that test a few bytes.
use Prim.Native.Nat.{ℕ, zero, suc, ◌+◌, ◌-◌, ◌≤◌, ◌<◌}
use mathlib.Core.Path.{◌≡◌, refl, sym, ◌∙◌}
use mathlib.Core.Bool.{Bool, true, false, ◌&&◌, ◌||◌, not}
use mathlib.Core.List.{List, [], ◌∷◌}
use native.Mathlib.Omega.{arith}
use native.Mathlib.Numerals.{add-one}
use native.Mathlib.Nat.{add-zero}
use lib.ListN.{length, get_or, drop, drop_of_length-le}
use lib.Seq.{drop-cons, get_or-drop}
use borrow.Author.Tests.{not-true, not-false}
use Rattle.spec_format.specs.Bytes.{all, printing, blank}
use Rattle.spec_format.specs.Write.{white, blanked}
use Rattle.base_pen.specs.Pen.{Writes, Left, left_as, left_step, left_end}
use Rattle.write_locus_words.specs.Words.{white_one, white_two, white_three, white_is, white_from, shown, blanked_step, blanked_none, closed, next_place}
use Rattle.write_locus_words.specs.Words.{ended, second, cap, words_left, words_step, words_none, two_left, two_step, two_none}
use Rattle.write_locus_words.specs.declared.Place.{Place}
use Rattle.write_locus_words.specs.declared.Place.TheVariants as place

-- ---- white space

pub either_is : (a b x y r : Bool) → r ≡ (a || b) → a ≡ x → b ≡ y → r ≡ (x || y)
either_is a b x y r h p q = h ∙ rw (p, q)

module _ (a b c : ℕ) (p : Bool) (f : p ≡ white_one a) where
  pub white_yes : p ≡ true → 1 ≡ white a b c
  white_yes t = rw (white_is a b c, ← f, t)

  module _ (n : p ≡ false) (q : Bool) (g : q ≡ white_two a b) where
    pub white_two_yes : q ≡ true → 2 ≡ white a b c
    white_two_yes t = rw (white_is a b c, ← f, n, ← g, t)

    module _ (m : q ≡ false) (r : Bool) (h : r ≡ white_three a b c) where
      pub white_three_yes : r ≡ true → 3 ≡ white a b c
      white_three_yes t = rw (white_is a b c, ← f, n, ← g, m, ← h, t)

      pub white_no : r ≡ false → 0 ≡ white a b c
      white_no t = rw (white_is a b c, ← f, n, ← g, m, ← h, t)

pub from_known : (n : ℕ) (t : List ℕ) → 0 < n → n ≡ white_from n t
from_known zero t h = absurd (omega arith)
from_known (suc n) t h = refl

pub from_new :
    (n i : ℕ) (s : List ℕ) (a b c r : ℕ) → n ≤ 0 → a ≡ get_or s i 0 → b ≡ get_or s (i + 1) 0 → c ≡ get_or s (i + 2) 0 → r ≡ white a b c → r ≡ white_from n (drop i s)
from_new (suc n) i s a b c r h d e f g = absurd (omega arith)
from_new zero i s a b c r h d e f g = rw (get_or-drop i s 0 0, add-zero i, get_or-drop i s 1 0, get_or-drop i s 2 0, ← d, ← e, ← f) g

pub shown_white : (w b : ℕ) → 0 < w → 32 ≡ shown w b
shown_white zero b h = absurd (omega arith)
shown_white (suc w) b h = refl

pub shown_own : (w b : ℕ) → w ≤ 0 → b ≡ shown w b
shown_own zero b h = refl
shown_own (suc w) b h = absurd (omega arith)

-- ---- places

module _ (p : Place) (b : ℕ) (r : Bool) (h : r ≡ blank b) where
  pub place_blank : (q : Place) → r ≡ true → q ≡ closed p → q ≡ next_place p b
  place_blank q t e = rw (← h, t) e

  pub place_byte : r ≡ false → place.Inside ≡ next_place p b
  place_byte t = rw (← h, t)

  pub cap_blank : r ≡ true → [] ≡ cap p b
  cap_blank t = rw (← h, t)

  pub cap_after : (q : Bool) → r ≡ false → q ≡ ended p → q ≡ true → 95 ∷ b ∷ [] ≡ cap p b
  cap_after q t e u = rw (← h, t, ← e, u)

  pub cap_alone : (q : Bool) → r ≡ false → q ≡ ended p → q ≡ false → b ∷ [] ≡ cap p b
  cap_alone q t e u = rw (← h, t, ← e, u)

-- ---- a turn of a loop over s: byte i, of which n bytes of white space are known

module _ (s : List ℕ) (i n w b m : ℕ) (l : i < length s) (e : w ≡ white_from n (drop i s)) (f : b ≡ shown w (get_or s i 0)) (g : m ≡ w - 1) where
  met : blanked n (drop i s) ≡ b ∷ blanked m (drop (i + 1) s)
  met =
      let d : drop i s ≡ get_or s i 0 ∷ drop (i + 1) s = rw (add-one, drop-cons s i 0) in
      let k : w ≡ white_from n (get_or s i 0 ∷ drop (i + 1) s) = rw d at e in
      rw (d, blanked_step n (get_or s i 0) (drop (i + 1) s), ← k, ← f, ← g)

  pub put_turn : (old out new whole : List ℕ) (at p next : ℕ) (here there : Place) → Left old at whole out p (words_left here (blanked n (drop i s)))
      → Writes out p (cap here b) new next → there ≡ next_place here b → Left old at whole new next (words_left there (blanked m (drop (i + 1) s)))
  put_turn old out new whole at p next here there h k q = rw q (left_step (left_as (rw met (words_step here b (blanked m (drop (i + 1) s)))) h) k)

  module _ (whole r : Bool) (here : Place) (h : whole ≡ two_left here (blanked n (drop i s))) (k : r ≡ second here b) where
    two_met : whole ≡ (r || two_left (next_place here b) (blanked m (drop (i + 1) s)))
    two_met = h ∙ (rw (met, k) (two_step here b (blanked m (drop (i + 1) s))))

    pub two_yes : r ≡ true → true ≡ whole
    two_yes t = sym (two_met ∙ rw t)

    pub two_turn : (there : Place) → r ≡ false → there ≡ next_place here b → whole ≡ two_left there (blanked m (drop (i + 1) s))
    two_turn there t q = two_met ∙ rw (t, q)

  module _ (whole r : Bool) (h : whole ≡ all printing (blanked n (drop i s))) (k : r ≡ printing b) where
    prints_met : whole ≡ (r && all printing (blanked m (drop (i + 1) s)))
    prints_met = h ∙ rw (met, k)

    pub prints_no : not r ≡ true → false ≡ whole
    prints_no t = sym (prints_met ∙ rw (not-true r t))

    pub prints_turn : not r ≡ false → whole ≡ all printing (blanked m (drop (i + 1) s))
    prints_turn t = prints_met ∙ rw (not-false r t)

module _ (s : List ℕ) (i n : ℕ) (l : length s ≤ i) where
  none_left : blanked n (drop i s) ≡ []
  none_left = rw (drop_of_length-le s l, blanked_none n)

  pub put_end : (old out whole : List ℕ) (at p : ℕ) (here : Place) → Left old at whole out p (words_left here (blanked n (drop i s))) → Writes old at whole out p
  put_end old out whole at p here h = left_end (left_as (rw (none_left, words_none here)) h)

  pub two_end : (whole : Bool) (here : Place) → whole ≡ two_left here (blanked n (drop i s)) → false ≡ whole
  two_end whole here h = sym (h ∙ rw (none_left, two_none here))

  pub prints_end : (whole : Bool) → whole ≡ all printing (blanked n (drop i s)) → true ≡ whole
  prints_end whole h = sym (h ∙ rw none_left)
