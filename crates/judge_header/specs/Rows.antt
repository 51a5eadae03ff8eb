-- Rows tested one after the other.
use Rattle.std.specs.Prelude.{ℕ, zero, suc, ◌+◌, ◌*◌, ◌≡◌, refl, Bool, true, false}
use Rattle.std.specs.List.{list_all, range_with_len}
use Rattle.std.proofs.Common.{◌∙◌}
use Rattle.spec_format.specs.Bytes.{all}
use Rattle.spec_format.specs.Rooms.{rows_from, rows_fine}
use Rattle.judge_rooms.specs.Steps.{rows_all}

-- a test of all rows is a test of their places
pub all_rows : {A : Type 0} (p : A → Bool) (g : ℕ → A) (w i n : ℕ) → rows_fine (λ at. p (g at)) w i n ≡ all p (rows_from g w i n)
unfolding rows_fine rows_from
all_rows p g w i zero = refl
all_rows p g w i (suc n) = go (p (g (w * i))) refl (all_rows p g w (i + 1) n)
  where
    go : (x : Bool) → p (g (w * i)) ≡ x → rows_fine (λ at. p (g at)) w (i + 1) n ≡ all p (rows_from g w (i + 1) n)
        → rows_fine (λ at. p (g at)) w i (suc n) ≡ all p (rows_from g w i (suc n))
    go true e ih = rw (rows_fine, e) ih
    go false e ih = rw (rows_fine, e)

-- the same of each row of a range, as `all` tests it
pub rows_pass : {A : Type 0} (p : A → Bool) (g : ℕ → A) (w i n : ℕ) (r : Bool) → r ≡ list_all (λ k. p (g (w * k))) (range_with_len i n) → r ≡ all p (rows_from g w i n)
rows_pass p g w i n r h = rows_all (λ at. p (g at)) w i n r h ∙ all_rows p g w i n
