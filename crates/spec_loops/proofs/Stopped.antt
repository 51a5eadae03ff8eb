-- What stands where the last turn of a loop was tried, after a turn that goes on.
use Prim.Native.Nat.{ℕ, zero, suc, ◌<◌}
use Rattle.std.specs.Prelude.{◌≡◌}
use Rattle.std.proofs.Math.Path.{refl}
use mathlib.Core.List.{List}
use Rattle.std.proofs.Common.{not-suc-le-zero, arith}
use Rattle.std.proofs.Math.ListN.{length}
use Rattle.spec_format.specs.Readers.{Ans, got, no, cut, Turn, more, stop}
use Rattle.spec_lines.specs.Troubles.{stopped_up_to, stopped}
use Rattle.spec_loops.specs.Loops.{Shrinks}

module _ {A : Type 0} (turn : List ℕ → Ans (Turn A)) (small : Shrinks turn) where
  stopped_enough : (n m : ℕ) (s : List ℕ) → length s < n → length s < m → stopped_up_to turn n s ≡ stopped_up_to turn m s
  unfolding stopped_up_to
  stopped_enough zero m s h k = absurd (not-suc-le-zero h)
  stopped_enough (suc n) zero s h k = absurd (not-suc-le-zero k)
  stopped_enough (suc n) (suc m) s h k = go (λ r. stopped_enough n m r) (turn s) refl
    where
      go :
          ((r : List ℕ) → length r < n → length r < m → stopped_up_to turn n r ≡ stopped_up_to turn m r) → (o : Ans (Turn A)) → turn s ≡ o →
          stopped_up_to turn (suc n) s ≡ stopped_up_to turn (suc m) s
      go ih (got (more a) r) e = let l : length r < length s = omega (arith, small s a r e) in rw (stopped_up_to, e, ih r (omega arith) (omega arith))
      go ih (got stop r) e = rw (stopped_up_to, e)
      go ih no e = rw (stopped_up_to, e)
      go ih cut e = rw (stopped_up_to, e)

  pub stopped_more : (s : List ℕ) (a : A) (r : List ℕ) → turn s ≡ got (more a) r → stopped turn s ≡ stopped turn r
  unfolding stopped stopped_up_to
  stopped_more s a r e =
      let l : length r < length s = omega (arith, small s a r e) in rw (stopped_up_to, e, stopped_enough (length s) (suc (length r)) r l (omega arith))
