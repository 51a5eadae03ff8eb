-- A text in lines: the first meets the columns of its kind, and each further one stands alone from the column where the text began.
use Rattle.std.specs.Prelude.{ℕ, suc, ◌-◌, Bool, true, false, ◌≡◌, refl, List, [], ◌∷◌, ◌++◌}
use Rattle.std.proofs.Common.{arith, ap, ◌∙◌, append_assoc}
use Rattle.std.proofs.lemmas.List.{length-replicate}
use Rattle.spec_format.specs.Bytes.{spaces, each}
use Rattle.spec_public.specs.Public.{continues, continued}
use Rattle.spec_columns.specs.Tests.{both}
use Rattle.spec_columns.specs.Parts.{blank_start, rest_start}

abbrev pub ended : List ℕ → List ℕ
ended line = line ++ 10 ∷ []

-- the lines, each with its LF
abbrev pub lined : List (List ℕ) → List ℕ
lined lines = each ended lines

-- what is written is lines: the first has the text m in the columns that `opens` tests, those after it have the texts ms from column a on
pub record Laid (opens : List ℕ → List ℕ → Bool) (a : ℕ) (m : List ℕ) (ms : List (List ℕ)) (written : List ℕ) : Type 0 where
  pub first : List ℕ
  pub more : List (List ℕ)
  pub is : written ≡ lined (first ∷ more)
  pub opened : opens m first ≡ true
  pub goes_on : continued a ms more ≡ true

-- ---- how the writer puts them: an indent before each further line

unfoldable pub text_lines : ℕ → List ℕ → List (List ℕ) → List ℕ
text_lines indent m [] = m ++ 10 ∷ []
text_lines indent m (l ∷ ls) = m ++ 10 ∷ [] ++ spaces indent ++ text_lines indent l ls

abbrev indented : ℕ → List (List ℕ) → List (List ℕ)
indented indent [] = []
indented indent (m ∷ ms) = (spaces indent ++ m) ∷ indented indent ms

indented_lines : (indent : ℕ) (start m : List ℕ) (ms : List (List ℕ)) → start ++ text_lines indent m ms ≡ lined ((start ++ m) ∷ indented indent ms)
unfolding text_lines
indented_lines indent start m [] = simp append_assoc
indented_lines indent start m (l ∷ ls) =
    ap (λ (x : List ℕ). start ++ x) (append_assoc (m ++ 10 ∷ []) (spaces indent) (text_lines indent l ls)) ∙
    (ap (λ (x : List ℕ). start ++ ((m ++ 10 ∷ []) ++ x)) (indented_lines indent (spaces indent) l ls) ∙ simp append_assoc)

continues_at : (n : ℕ) (m : List ℕ) → continues (suc n) m (spaces n ++ m) ≡ true
continues_at n m = both _ _ (blank_start (suc n - 1) n m (omega arith)) (both _ _ (rest_start (suc n) (spaces n) m (length-replicate {A = ℕ} n 32 ∙ omega arith)) refl)

indented_continue : (n : ℕ) (ms : List (List ℕ)) → continued (suc n) ms (indented n ms) ≡ true
unfolding continued
indented_continue n [] = refl
indented_continue n (m ∷ ms) = both _ _ (continues_at n m) (indented_continue n ms)

pub laid :
    (opens : List ℕ → List ℕ → Bool) (n : ℕ) (start m : List ℕ) (ms : List (List ℕ)) → opens m (start ++ m) ≡ true →
    Laid opens (suc n) m ms (start ++ text_lines n m ms)
laid opens n start m ms h =
    record {
      first = start ++ m;
      more = indented n ms;
      is = indented_lines n start m ms;
      opened = h;
      goes_on = indented_continue n ms;
    }
