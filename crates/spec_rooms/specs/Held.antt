-- A list that stands in a room at a place, and what can be read of it there.
use Rattle.std.specs.Prelude.{ℕ, zero, suc, ◌+◌, ◌-◌, ◌≤◌, ◌<◌, true, ◌≡◌, refl, List, [], ◌∷◌, ◌++◌, length, take, drop, get_or, leb}
use Rattle.std.proofs.Common.{arith, ap, sym, ◌∙◌, append_assoc, length-append, drop_at, le-leb}
use Rattle.std.proofs.Math.Seq.{take-append_seam}
use Rattle.std.proofs.lemmas.List.{get_or_at}
use Rattle.spec_format.specs.Rooms.{cut, span_fine}

pub record Held (S : List ℕ) (at : ℕ) (t : List ℕ) : Type 0 where
  pub before : List ℕ
  pub after : List ℕ
  pub is : S ≡ before ++ (t ++ after)
  pub long : length before ≡ at

module _ (S : List ℕ) (at : ℕ) where
  pub held_left : (x y : List ℕ) → Held S at (x ++ y) → Held S at x
  held_left x y h =
      record { before = h.before; after = y ++ h.after; is = h.is ∙ ap (λ l. h.before ++ l) (append_assoc x y h.after); long = h.long }

  pub held_right : (x y : List ℕ) → Held S at (x ++ y) → Held S (at + length x) y
  held_right x y h =
      record {
        before = h.before ++ x;
        after = h.after;
        is = h.is ∙ (ap (λ l. h.before ++ l) (append_assoc x y h.after) ∙ sym (append_assoc h.before x (y ++ h.after)));
        long = length-append h.before x ∙ ap (λ n. n + length x) h.long;
      }

  pub held_head : (b : ℕ) (t : List ℕ) → Held S at (b ∷ t) → get_or S at 0 ≡ b
  held_head b t h = ap (λ l. get_or l at 0) h.is ∙ get_or_at h.before b (t ++ h.after) 0 at h.long

  pub held_tail : (b : ℕ) (t : List ℕ) → Held S at (b ∷ t) → Held S (at + 1) t
  held_tail b t h = held_right (b ∷ []) t h

  pub held_cut : (t : List ℕ) → Held S at t → cut S at (length t) ≡ t
  held_cut t h = ap (λ l. take (length t) (drop at l)) h.is ∙ rw (drop_at h.before (t ++ h.after) at h.long) (take-append_seam t h.after)

  pub held_within : (t : List ℕ) → Held S at t → at + length t ≤ length S
  held_within t h =
      omega (arith, ap length h.is, length-append h.before (t ++ h.after), length-append t h.after)

  pub held_fine : (t : List ℕ) → Held S at t → span_fine (length S) at (length t) ≡ true
  held_fine t h =
      let w : at + length t ≤ length S = held_within t h in
      let a : leb at (length S) ≡ true = le-leb at (length S) (omega arith) in
      rw a (le-leb (length t) (length S - at) (omega arith))

pub held_at : (S : List ℕ) (at n : ℕ) (t : List ℕ) → at ≡ n → Held S at t → Held S n t
held_at S at n t e h = record { before = h.before; after = h.after; is = h.is; long = h.long ∙ e }

-- the number k places on
pub held_number : (S : List ℕ) (at : ℕ) (t : List ℕ) → Held S at t → (k : ℕ) → k < length t → get_or S (at + k) 0 ≡ get_or t k 0
held_number S at [] h k b = absurd (omega (arith, b))
held_number S at (n ∷ t) h zero b = let e : at + 0 ≡ at = omega arith in rw e (held_head S at n t h)
held_number S at (n ∷ t) h (suc k) b =
    let e : at + suc k ≡ at + 1 + k = omega arith in
    rw e (held_number S (at + 1) t (held_tail S at n t h) k (omega arith))

-- what is written over a room stands at its start
pub held_first : (t old : List ℕ) → Held (t ++ old) 0 t
held_first t old = record { before = []; after = old; is = refl; long = refl }
