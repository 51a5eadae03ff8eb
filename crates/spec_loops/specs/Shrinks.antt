-- What a reader leaves is the end of what it was given: of what is put together from readers that do so. The readers themselves are in proofs/Shrinks.antt.
use Prim.Native.Nat.{ℕ, zero, suc, ◌+◌, ◌-◌, ◌≤◌}
use Rattle.std.specs.Prelude.{◌≡◌, Bool, true, false, length, drop}
use Rattle.std.proofs.Math.Path.{refl}
use Rattle.std.proofs.Common.{◌∙◌, ap, arith, length-drop, drop-drop}
use mathlib.Core.List.{List, ◌∷◌}
use Rattle.spec_format.specs.Bytes.{pick, is}
use Rattle.spec_format.specs.Readers.{Ans, got, no, cut, bind, mapped, passing, or_else, optional}
use Rattle.spec_format.specs.Readers.{Turn, more, stop, end_up_to, end, loop, trying, try_turn, while_fits}
use Rattle.spec_format.specs.Impossible.{impossible}

-- r is what is left of s after `gone` bytes, m at least
pub record Past (m : ℕ) (s r : List ℕ) : Type 0 where
  pub gone : ℕ
  pub least : m ≤ gone
  pub within : gone ≤ length s
  pub is : r ≡ drop gone s

pub past_here : (s : List ℕ) → Past 0 s s
past_here s = record { gone = 0; least = omega arith; within = omega arith; is = refl }

pub past_byte : (m b : ℕ) (s r : List ℕ) → Past m s r → Past (suc m) (b ∷ s) r
past_byte m b s r p = record { gone = suc p.gone; least = omega arith; within = omega arith; is = p.is }

pub past_less : (k m : ℕ) (s r : List ℕ) → k ≤ m → Past m s r → Past k s r
past_less k m s r h p = record { gone = p.gone; least = omega arith; within = p.within; is = p.is }

pub past_loose : (m : ℕ) (s r : List ℕ) → Past m s r → Past 0 s r
past_loose m s r p = past_less 0 m s r (omega arith) p

pub past_then : (m n k : ℕ) (s r t : List ℕ) → k ≤ m + n → Past m s r → Past n r t → Past k s t
past_then m n k s r t h p q =
    let l : length r ≡ length s - p.gone = ap length p.is ∙ length-drop p.gone s in
    record {
      gone = p.gone + q.gone;
      least = omega arith;
      within = omega arith;
      is = q.is ∙ ap (drop q.gone) p.is ∙ drop-drop q.gone p.gone s;
    }

pub past_length : (m : ℕ) (s r : List ℕ) → Past m s r → m + length r ≤ length s
past_length m s r p = let l : length r ≡ length s - p.gone = ap length p.is ∙ length-drop p.gone s in omega arith

pub past_drop : (m : ℕ) (s r : List ℕ) → Past m s r → r ≡ drop (length s - length r) s
past_drop m s r p =
    let l : length r ≡ length s - p.gone = ap length p.is ∙ length-drop p.gone s in
    let e : length s - length r ≡ p.gone = omega arith in
    rw e p.is

-- what was read at s leaves the end of s, with m bytes gone at least
pub record Leaves {A : Type 0} (m : ℕ) (s : List ℕ) (o : Ans A) : Type 0 where
  pub past : (a : A) (r : List ℕ) → o ≡ got a r → Past m s r

module _ {A : Type 0} (m : ℕ) (s : List ℕ) where
  pub leaves_got : (a : A) (r : List ℕ) → Past m s r → Leaves m s (got a r)
  leaves_got a r p = record { past = λ b z e. let f : r ≡ z = cc in rw f at p }

  pub leaves_no : Leaves {A = A} m s no
  leaves_no = record { past = λ b z e. impossible cc }

  pub leaves_cut : Leaves {A = A} m s cut
  leaves_cut = record { past = λ b z e. impossible cc }

pub leaves_less : {A : Type 0} (k m : ℕ) (s : List ℕ) (o : Ans A) → k ≤ m → Leaves m s o → Leaves k s o
leaves_less k m s o l h = record { past = λ a r e. past_less k m s r l (h.past a r e) }

pub leaves_loose : {A : Type 0} {m : ℕ} {s : List ℕ} {o : Ans A} → Leaves m s o → Leaves 0 s o
leaves_loose {A} {m} {s} {o} h = leaves_less 0 m s o (omega arith) h

pub leaves_length : {A : Type 0} {m : ℕ} {s : List ℕ} {o : Ans A} → Leaves m s o → (a : A) (r : List ℕ) → o ≡ got a r → m + length r ≤ length s
leaves_length {A} {m} {s} h a r e = past_length m s r (h.past a r e)

-- ---- the combinators

module _ {A B : Type 0} where
  -- the bytes are taken by the first, or by what follows
  pub leaves_first : {m : ℕ} {s : List ℕ} {o : Ans A} {k : A → List ℕ → Ans B} → Leaves m s o → ((a : A) (r : List ℕ) → Leaves 0 r (k a r)) → Leaves m s (bind o k)
  leaves_first {m} {s} {o} {k} h g = go o refl
    where
      go : (x : Ans A) → o ≡ x → Leaves m s (bind x k)
      go (got a r) e = record { past = λ b z f. past_then m 0 m s r z (omega arith) (h.past a r e) ((g a r).past b z f) }
      go no e = leaves_no m s
      go cut e = leaves_cut m s

  pub leaves_mapped : {m : ℕ} {s : List ℕ} {o : Ans A} (f : A → B) → Leaves m s o → Leaves m s (mapped f o)
  leaves_mapped {m} {s} {o} f h = go o refl
    where
      go : (x : Ans A) → o ≡ x → Leaves m s (mapped f x)
      go (got a r) e = leaves_got m s (f a) r (h.past a r e)
      go no e = leaves_no m s
      go cut e = leaves_cut m s

module _ {A : Type 0} where
  pub leaves_pick : {m : ℕ} {s : List ℕ} {x y : Ans A} (t : Bool) → Leaves m s x → Leaves m s y → Leaves m s (pick t x y)
  leaves_pick true h g = h
  leaves_pick false h g = g

  pub leaves_passing : {m : ℕ} {s : List ℕ} {o : Ans A} (p : A → Bool) → Leaves m s o → Leaves m s (passing p o)
  leaves_passing {m} {s} {o} p h = go o refl
    where
      go : (x : Ans A) → o ≡ x → Leaves m s (passing p x)
      go (got a r) e = leaves_pick (p a) (leaves_got m s a r (h.past a r e)) (leaves_no m s)
      go no e = leaves_no m s
      go cut e = leaves_cut m s

  pub leaves_or : {m : ℕ} {s : List ℕ} {x y : Ans A} → Leaves m s x → Leaves m s y → Leaves m s (or_else x y)
  leaves_or {m} {s} {x} {y} h g = go x h
    where
      go : (x : Ans A) → Leaves m s x → Leaves m s (or_else x y)
      go (got a r) h = h
      go no h = g
      go cut h = leaves_cut m s

  pub leaves_optional : {s : List ℕ} {o : Ans A} → Leaves 0 s o → Leaves 0 s (optional s o)
  leaves_optional {s} {o} h = go o refl
    where
      go : (x : Ans A) → o ≡ x → Leaves 0 s (optional s x)
      go (got a r) e = leaves_got 0 s _ r (h.past a r e)
      go no e = leaves_got 0 s _ s (past_here s)
      go cut e = leaves_cut 0 s

-- ---- loops

-- a turn that goes on takes a byte at least
pub record Turns {A : Type 0} (s : List ℕ) (o : Ans (Turn A)) : Type 0 where
  pub on : (a : A) (r : List ℕ) → o ≡ got (more a) r → Past 1 s r
  pub off : (r : List ℕ) → o ≡ got stop r → Past 0 s r

module _ {A : Type 0} where
  pub turns_takes : {s : List ℕ} {o : Ans (Turn A)} → Leaves 1 s o → Turns s o
  turns_takes {s} h = record { on = λ a r e. h.past (more a) r e; off = λ r e. past_loose 1 s r (h.past stop r e) }

  pub turns_here : (s : List ℕ) → Turns {A = A} s (got stop s)
  turns_here s = record {
    on = λ a r e. impossible cc;
    off = λ r e. (leaves_got {A = Turn A} 0 s stop s (past_here s)).past stop r e;
  }

module _ {A : Type 0} (turn : List ℕ → Ans (Turn A)) (h : (s : List ℕ) → Turns s (turn s)) where
  up_to_leaves : (n : ℕ) (s : List ℕ) → Leaves 0 s (end_up_to turn n s)
  unfolding end_up_to
  up_to_leaves zero s = leaves_no 0 s
  up_to_leaves (suc n) s = go (λ r. up_to_leaves n r) (turn s) refl
    where
      go : ((r : List ℕ) → Leaves 0 r (end_up_to turn n r)) → (o : Ans (Turn A)) → turn s ≡ o → Leaves 0 s (end_up_to turn (suc n) s)
      go ih (got (more a) r) e = rw (end_up_to, e) (record { past = λ u z f. past_then 1 0 0 s r z (omega arith) ((h s).on a r e) ((ih r).past u z f) })
      go ih (got stop r) e = rw (end_up_to, e) (leaves_got 0 s tt r ((h s).off r e))
      go ih no e = rw (end_up_to, e) (leaves_no 0 s)
      go ih cut e = rw (end_up_to, e) (leaves_cut 0 s)

  pub end_leaves : (s : List ℕ) → Leaves 0 s (end turn s)
  unfolding end
  end_leaves s = up_to_leaves (suc (length s)) s

  pub loop_leaves : (s : List ℕ) → Leaves 0 s (loop turn s)
  loop_leaves s = leaves_first (end_leaves s) (λ u r. leaves_got 0 r _ r (past_here r))

pub tries_leave : {A : Type 0} (p : List ℕ → Ans A) → ((s : List ℕ) → Leaves 1 s (p s)) → (s : List ℕ) → Leaves 0 s (while_fits p s)
tries_leave {A} p h s = loop_leaves (try_turn p) (λ s. go s (p s) (h s)) s
  where
    go : (s : List ℕ) (o : Ans A) → Leaves 1 s o → Turns s (trying s o)
    go s (got a r) l = turns_takes (leaves_got 1 s (more a) r (l.past a r refl))
    go s no l = turns_here s
    go s cut l = turns_here s
