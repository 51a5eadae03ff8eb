-- The place of a text among three words and those after them: one law for each way by which the code answers.
use Prim.Native.Nat.{ℕ, zero, suc, ◌+◌}
use mathlib.Core.Path.{◌≡◌, refl, ap, ◌∙◌}
use mathlib.Core.Bool.{Bool, true, false}
use mathlib.Core.List.{List, ◌∷◌}
use native.Mathlib.Omega.{arith}
use Rattle.spec_format.specs.Bytes.{same}
use Rattle.spec_format.specs.Locus.{place_in}
use Rattle.read_locus_tokens.specs.Parts.{place_after, Placed}

module _ (t a b c : List ℕ) (n : ℕ) (x : Bool) (e : x ≡ same t a) where
  pub place_first : x ≡ true → Placed t a b c n 1
  place_first p = record { is = rw (← e, p); within = omega arith }

  module _ (y : Bool) (p : x ≡ false) (f : y ≡ same t b) where
    pub place_second : y ≡ true → Placed t a b c n 2
    place_second q = record { is = rw (← e, p, ← f, q); within = omega arith }

    module _ (z : Bool) (q : y ≡ false) (g : z ≡ same t c) where
      pub place_third : z ≡ true → Placed t a b c n 3
      place_third s = record { is = rw (← e, p, ← f, q, ← g, s); within = omega arith }

      pub place_none : z ≡ false → n ≡ 0 → Placed t a b c n 0
      place_none s l = record { is = rw (← e, p, ← f, q, ← g, s, l); within = omega arith }

      pub place_later : z ≡ false → (n ≡ 0 → ⊥) → Placed t a b c n (n + 3)
      place_later s l = record { is = rw (← e, p, ← f, q, ← g, s) (go n l); within = omega arith }
        where
          go : (m : ℕ) → (m ≡ 0 → ⊥) → m + 3 ≡ place_after false (place_after false (place_after false m))
          go zero h = absurd (h refl)
          go (suc k) h = omega arith

-- the same where the words after them are a list
pub place_among : (t a b c : List ℕ) (l : List (List ℕ)) (n r : ℕ) → Placed t a b c n r → n ≡ place_in t l → r ≡ place_in t (a ∷ b ∷ c ∷ l)
place_among t a b c l n r p h = p.is ∙ ap (λ m. place_after (same t a) (place_after (same t b) (place_after (same t c) m))) h
