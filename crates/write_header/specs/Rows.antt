-- Rows written one after the other, and texts that may be absent.
use Prim.Native.Nat.{ℕ, zero, suc, ◌+◌, ◌-◌, ◌*◌, ◌≤◌, ◌<◌}
use Rattle.std.specs.Prelude.{◌≡◌, refl, List, [], ◌++◌}
use Rattle.std.proofs.Common.{sym, append-nil}
use native.Mathlib.Omega.{arith}
use Rattle.spec_format.specs.Bytes.{absent, is, each}
use Rattle.spec_format.specs.Rooms.{rows_from, cut, perhaps_text}
use Rattle.base_pen.specs.Pen.{Writes, Left, left_step, left_as, left_end}

-- of the rows from row p up to row e, one is written; none is left
module _ {A : Type 0} (f : A → List ℕ) (g : ℕ → A) (w p e : ℕ) where
  rows_more : p < e → each f (rows_from g w p (e - p)) ≡ f (g (w * p)) ++ each f (rows_from g w (p + 1) (e - (p + 1)))
  unfolding rows_from
  rows_more h = let k : e - p ≡ suc (e - (p + 1)) = omega arith in rw k

  rows_none : e ≤ p → each f (rows_from g w p (e - p)) ≡ []
  unfolding rows_from
  rows_none h = let k : e - p ≡ 0 = omega arith in rw k

  pub each_go : {l m n x : List ℕ} {i j k : ℕ} → Left l i x m j (each f (rows_from g w p (e - p))) → p < e → Writes m j (f (g (w * p))) n k
      → Left l i x n k (each f (rows_from g w (p + 1) (e - (p + 1))))
  each_go s h t = left_step (left_as (rows_more h) s) t

  pub each_done : {l m x : List ℕ} {i j : ℕ} → Left l i x m j (each f (rows_from g w p (e - p))) → e ≤ p → Writes l i x m j
  each_done s h = left_end (left_as (rows_none h) s)

-- no rows after a text
pub none_after : {A : Type 0} (f : A → List ℕ) (g : ℕ → A) (w i n : ℕ) (x : List ℕ) → n ≡ 0 → x ≡ x ++ each f (rows_from g w i n)
unfolding rows_from
none_after f g w i n x e = rw e (sym (append-nil x))

-- the length of a part of a store
pub part_is : (start n : ℕ) → start + n - start ≡ n
part_is start n = omega arith

-- a text of a row that is absent; one that is there
pub perhaps_none : (store : List ℕ) (start n : ℕ) → n ≡ 0 → absent ≡ perhaps_text store start n
perhaps_none store start n e = rw e

pub perhaps_some : (store : List ℕ) (start n : ℕ) → (n ≡ 0 → ⊥) → is (cut store start (n - 1)) ≡ perhaps_text store start n
perhaps_some store start zero h = absurd (h refl)
perhaps_some store start (suc n) h = let k : suc n - 1 ≡ n = omega arith in rw k
