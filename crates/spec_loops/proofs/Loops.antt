-- Loops, one turn at a time: what a turn that goes on adds. Where each takes a byte at least, how many turns were allowed does not matter.
use Prim.Native.Nat.{ℕ, zero, suc, ◌<◌}
use Rattle.std.specs.Prelude.{◌≡◌}
use Rattle.std.proofs.Math.Path.{refl}
use Rattle.std.proofs.Common.{◌∙◌, not-suc-le-zero, arith}
use mathlib.Core.List.{List, ◌∷◌}
use Rattle.std.proofs.Math.ListN.{length}
use Rattle.spec_format.specs.Readers.{Ans, got, no, cut, bind, mapped, Turn, more, stop, members_up_to, end_up_to, members, end, loop, fit_turn, many0, try_turn, while_fits}
use Rattle.spec_loops.specs.Loops.{Shrinks, Takes, fit_shrinks, try_shrinks}

module _ {A : Type 0} (turn : List ℕ → Ans (Turn A)) (small : Shrinks turn) where
  members_enough : (n m : ℕ) (s : List ℕ) → length s < n → length s < m → members_up_to turn n s ≡ members_up_to turn m s
  unfolding members_up_to
  members_enough zero m s h k = absurd (not-suc-le-zero h)
  members_enough (suc n) zero s h k = absurd (not-suc-le-zero k)
  members_enough (suc n) (suc m) s h k = go (λ r. members_enough n m r) (turn s) refl
    where
      go :
          ((r : List ℕ) → length r < n → length r < m → members_up_to turn n r ≡ members_up_to turn m r) → (o : Ans (Turn A)) → turn s ≡ o →
          members_up_to turn (suc n) s ≡ members_up_to turn (suc m) s
      go ih (got (more a) r) e = let l : length r < length s = omega (arith, small s a r e) in rw (members_up_to, e, ih r (omega arith) (omega arith))
      go ih (got stop r) e = rw (members_up_to, e)
      go ih no e = rw (members_up_to, e)
      go ih cut e = rw (members_up_to, e)

  end_enough : (n m : ℕ) (s : List ℕ) → length s < n → length s < m → end_up_to turn n s ≡ end_up_to turn m s
  unfolding end_up_to
  end_enough zero m s h k = absurd (not-suc-le-zero h)
  end_enough (suc n) zero s h k = absurd (not-suc-le-zero k)
  end_enough (suc n) (suc m) s h k = go (λ r. end_enough n m r) (turn s) refl
    where
      go :
          ((r : List ℕ) → length r < n → length r < m → end_up_to turn n r ≡ end_up_to turn m r) → (o : Ans (Turn A)) → turn s ≡ o →
          end_up_to turn (suc n) s ≡ end_up_to turn (suc m) s
      go ih (got (more a) r) e = let l : length r < length s = omega (arith, small s a r e) in rw (end_up_to, e, ih r (omega arith) (omega arith))
      go ih (got stop r) e = rw (end_up_to, e)
      go ih no e = rw (end_up_to, e)
      go ih cut e = rw (end_up_to, e)

  pub members_more : (s : List ℕ) (a : A) (r : List ℕ) → turn s ≡ got (more a) r → members turn s ≡ a ∷ members turn r
  unfolding members members_up_to
  members_more s a r e =
      let l : length r < length s = omega (arith, small s a r e) in rw (members_up_to, e, members_enough (length s) (suc (length r)) r l (omega arith))

  pub end_more : (s : List ℕ) (a : A) (r : List ℕ) → turn s ≡ got (more a) r → end turn s ≡ end turn r
  unfolding end end_up_to
  end_more s a r e = let l : length r < length s = omega (arith, small s a r e) in rw (end_up_to, e, end_enough (length s) (suc (length r)) r l (omega arith))

  pub loop_more : (s : List ℕ) (a : A) (r : List ℕ) → turn s ≡ got (more a) r → loop turn s ≡ mapped (λ l. a ∷ l) (loop turn r)
  loop_more s a r e = rw (end_more s a r e, members_more s a r e) (go (end turn r))
    where
      go : (o : Ans Unit) → bind o (λ _ z. got (a ∷ members turn r) z) ≡ mapped (λ l. a ∷ l) (bind o (λ _ z. got (members turn r) z))
      go (got u z) = refl
      go no = refl
      go cut = refl

module _ {A : Type 0} (p : List ℕ → Ans A) (small : Takes p) (s : List ℕ) (a : A) (r : List ℕ) where
  pub fit_members_more : p s ≡ got a r → members (fit_turn p) s ≡ a ∷ members (fit_turn p) r
  fit_members_more e = members_more (fit_turn p) (fit_shrinks p small) s a r (cc)

  pub fit_end_more : p s ≡ got a r → end (fit_turn p) s ≡ end (fit_turn p) r
  fit_end_more e = end_more (fit_turn p) (fit_shrinks p small) s a r (cc)

  pub many0_more : p s ≡ got a r → many0 p s ≡ mapped (λ l. a ∷ l) (many0 p r)
  many0_more e = loop_more (fit_turn p) (fit_shrinks p small) s a r (cc)

  pub try_members_more : p s ≡ got a r → members (try_turn p) s ≡ a ∷ members (try_turn p) r
  try_members_more e = members_more (try_turn p) (try_shrinks p small) s a r (cc)

  pub try_end_more : p s ≡ got a r → end (try_turn p) s ≡ end (try_turn p) r
  try_end_more e = end_more (try_turn p) (try_shrinks p small) s a r (cc)

  pub tries_more : p s ≡ got a r → while_fits p s ≡ mapped (λ l. a ∷ l) (while_fits p r)
  tries_more e = loop_more (try_turn p) (try_shrinks p small) s a r (cc)

-- In a code's loop: o is the answer of the whole, and what was an answer from s is one from r.
module _ {A : Type 0} (turn : List ℕ → Ans (Turn A)) (s : List ℕ) (o : Ans Unit) where
  pub end_on : Shrinks turn → (a : A) (r : List ℕ) → o ≡ end turn s → turn s ≡ got (more a) r → o ≡ end turn r
  end_on small a r h e = h ∙ end_more turn small s a r e
