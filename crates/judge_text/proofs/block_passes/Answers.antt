-- A fold by `&` is `all`.
use Rattle.std.proofs.Common.{ℕ, Bool, true, false, ◌&&◌, ◌≡◌, List, [], ◌∷◌, rules, refl, ◌∙◌}
use Rattle.std.specs.List.{fold}
use Rattle.std.proofs.lemmas.Iterator.{YieldsList-from_slice}
use Rattle.std.proofs.lemmas.Iterator.Consumers.{fold_from_yields_List}
use Rattle.spec_format.specs.Bytes.{all}
use Rattle.judge_text.proofs.block_passes.Goals as goal

folded : (p : ℕ → Bool) (a : Bool) (xs : List ℕ) → fold (λ ok b. ok && p b) a xs ≡ (a && all p xs)
folded p true [] = refl
folded p false [] = refl
folded p true (x ∷ xs) = folded p (p x) xs
folded p false (x ∷ xs) = folded p false xs

pub returns : goal.returns
returns g c p h = fold_from_yields_List _ (λ ok b. ok && p b) true _ c.fold.ensures.ran (YieldsList-from_slice c.args.block.now cc) (λ a x b q k. search rules) ∙ folded p true c.args.block.now
