-- A fold by `&` says that each byte passes.
use Rattle.std.proofs.Common.{ℕ, suc, zero, ◌<◌, Bool, true, false, eqb, ◌&&◌, ◌≡◌, List, [], ◌∷◌, length, get_or, rules, refl, sym, ◌∙◌, arith, eq-eqb}
use Rattle.std.specs.Prelude.{not}
use Rattle.std.specs.List.{fold}
use Rattle.std.proofs.lemmas.Bool.{false≢true}
use Rattle.std.proofs.lemmas.Iterator.{YieldsList-from_slice}
use Rattle.std.proofs.lemmas.Iterator.Consumers.{fold_from_yields_List}
use Rattle.write_wrap_text.proofs.lacks.Goals as goal

abbrev passes : ℕ → Bool → ℕ → Bool
passes d ok b = ok && not (eqb b d)

once_failed : (d : ℕ) (xs : List ℕ) → fold (passes d) false xs ≡ false
once_failed d [] = refl
once_failed d (x ∷ xs) = once_failed d xs

all_passed : (d : ℕ) (xs : List ℕ) → fold (passes d) true xs ≡ true → (k : ℕ) → k < length xs → get_or xs k 0 ≡ d → ⊥
all_passed d [] e k h x = absurd (omega arith)
all_passed d (b ∷ xs) e zero h x = false≢true (sym (once_failed d xs) ∙ (rw (eq-eqb b d x) at e))
all_passed d (b ∷ xs) e (suc k) h x = go (eqb b d) e (λ f. all_passed d xs f k (omega arith) x)
  where
    go : (c : Bool) → fold (passes d) (not c) xs ≡ true → (fold (passes d) true xs ≡ true → ⊥) → ⊥
    go true f g = false≢true (sym (once_failed d xs) ∙ f)
    go false f g = g f

pub returns : goal.returns
returns c y =
    let e : c.fold.result ≡ fold (passes c.args.b) true c.args.block.now =
    fold_from_yields_List _ (passes c.args.b) true _ c.fold.ensures.ran (YieldsList-from_slice c.args.block.now cc) (λ a x b q k. search rules) in
    all_passed c.args.b c.args.block.now (sym e ∙ y)
