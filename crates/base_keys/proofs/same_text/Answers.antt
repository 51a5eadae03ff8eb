-- `base_keys::same_text` meets its contract. Assumes nothing.
use Rattle.std.proofs.Common.{◌≡◌, ◌≢◌, ℕ, suc, false, List, [], ◌∷◌, length, refl, ap, arith}
use Rattle.spec_format.specs.Bytes.{same}
use Rattle.base_keys.proofs.same_text.Goals as goal

lengths_differ : (a b : List ℕ) → length a ≢ length b → false ≡ same a b
lengths_differ [] [] h = absurd (h refl)
lengths_differ [] (y ∷ b) h = refl
lengths_differ (x ∷ a) [] h = refl
lengths_differ (x ∷ a) (y ∷ b) h = let e = lengths_differ a b (λ p. h (ap suc p)) in grind (arith, e)

pub returns-then-a-b : goal.returns-then-a-b
returns-then-a-b c = lengths_differ c.args.a.now c.args.b.now c.if-a-b.true
