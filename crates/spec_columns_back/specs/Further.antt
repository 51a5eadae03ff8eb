-- Lines that go on with a text, each alone from the column where the text began. That a location or a bare value is read as their join: proofs/Further.antt.
use Rattle.std.specs.Prelude.{ℕ, suc, ◌+◌, ◌-◌, Bool, true, ◌&&◌, not, ◌≡◌, refl, List, [], ◌∷◌, ◌++◌}
use Rattle.std.proofs.Common.{arith, append_assoc}
use Rattle.spec_format.specs.Bytes.{spaces, starts, all, each, slash}
use Rattle.spec_public.specs.Public.{continues, continued}
use Rattle.spec_texts_back.specs.Tests.{and_left, and_right}
use Rattle.spec_texts_back.specs.Pieces.{no_end}
use Rattle.spec_format.specs.Impossible.{impossible}
use Rattle.spec_columns_back.specs.Cells.{cell, last_cell}

-- a line with its end
abbrev pub ended : List ℕ → List ℕ
ended line = line ++ 10 ∷ []

-- a line that goes on with a text after n columns
abbrev pub further : ℕ → List ℕ → List ℕ
further n t = spaces n ++ (t ++ 10 ∷ [])

further_is : (n : ℕ) (t line : List ℕ) → continues (suc n) t line ≡ true → line ≡ spaces n ++ t
further_is n t line h =
    let e : suc n - 1 ≡ n = omega arith in
    let f : n - 0 ≡ n = omega arith in
    let z : 0 + n ≡ n = omega arith in
    cell line 0 n (spaces n) t _ (rw (e, e, f) at h) (λ h. rw z (last_cell line n t h))

pub furthers_are : (n : ℕ) (ts lines : List (List ℕ)) → continued (suc n) ts lines ≡ true → each ended lines ≡ each (further n) ts
unfolding continued
furthers_are n [] [] h = refl
furthers_are n [] (line ∷ lines) h = impossible cc
furthers_are n (t ∷ ts) [] h = impossible cc
furthers_are n (t ∷ ts) (line ∷ lines) h =
    rw (
      further_is n t line (and_left (continues (suc n) t line) _ h),
      furthers_are n ts lines (and_right (continues (suc n) t line) _ h),
      append_assoc (spaces n) t (10 ∷ []),
    )

-- the first of them, and what stands after it
pub further_first : (n : ℕ) (t : List ℕ) (ts : List (List ℕ)) (x : List ℕ) → each (further n) (t ∷ ts) ++ x ≡ spaces n ++ (t ++ 10 ∷ (each (further n) ts ++ x))
further_first n t ts x = regroup (spaces n) t (10 ∷ []) (each (further n) ts) x
  where
    regroup : (i t e m x : List ℕ) → ((i ++ (t ++ e)) ++ m) ++ x ≡ i ++ (t ++ (e ++ (m ++ x)))
    regroup i t e m x = simp append_assoc

-- ---- a location or a bare value

-- what a line may go on with: no `/` first, no line end
abbrev pub goes_on : List ℕ → Bool
goes_on t = not (starts slash t) && all no_end t
