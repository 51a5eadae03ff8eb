-- A room that is being filled, where it is known that the place after the text is one that a usize can hold: then what was written is an equation.
use Rattle.std.specs.Prelude.{◌≡◌, refl, ℕ, ◌+◌, ◌<◌, ◌^◌, List, [], ◌++◌, length}
use Rattle.std.proofs.Common.{sym, ◌∙◌, arith, length-append}
use Rattle.std.proofs.lemmas.List.Edits.{sets}
use Rattle.base_pen.specs.Pen.{Wrote, sets_append}

-- `rest` written from here makes of the room what `whole` would have made of the old one
pub record Filling (old : List ℕ) (at : ℕ) (whole new : List ℕ) (next : ℕ) (rest : List ℕ) : Type 0 where
  pub is : sets old at whole ≡ sets new next rest
  pub to : at + length whole ≡ next + length rest

pub filling_start : {l : List ℕ} {i : ℕ} {x : List ℕ} → Filling l i x l i x
filling_start = record { is = refl; to = refl }

pub filling_as : {l m : List ℕ} {i j : ℕ} {x y z : List ℕ} → y ≡ z → Filling l i x m j y → Filling l i x m j z
filling_as e p = rw e at p

pub filling_step : {l m n : List ℕ} {i j k : ℕ} {x y z : List ℕ} → Filling l i x m j (y ++ z) → Wrote m j y n k → Filling l i x n k z
filling_step {l} {m} {n} {i} {j} {k} {x} {y} {z} p w =
    record { is = p.is ∙ rw (w.is, w.to, sets_append y z m j); to = omega (arith, p.to, w.to, length-append y z) }

pub filling_end : {l m : List ℕ} {i j : ℕ} {x : List ℕ} → Filling l i x m j [] → Wrote l i x m j
filling_end {l} {m} {i} {j} {x} p = record { is = sym p.is; to = omega (arith, p.to) }

-- the bound of the whole bounds each part of what is left
pub filling_bound : {l m : List ℕ} {i j : ℕ} {x : List ℕ} (y z : List ℕ) → Filling l i x m j (y ++ z) → i + length x < 2 ^ 64 → j + length y < 2 ^ 64
filling_bound y z p h = omega (arith, p.to, length-append y z)

-- the text may be named by what it equals
pub wrote_as : {l n : List ℕ} {i k : ℕ} {x y : List ℕ} → x ≡ y → Wrote l i x n k → Wrote l i y n k
wrote_as e p = rw e at p
