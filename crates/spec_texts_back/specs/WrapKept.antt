-- A text with its quotes doubled and its lines indented. That `wrapped` does no more under the keeping rule: proofs/WrapKept.antt.
use Prim.Native.Nat.{ℕ, ◌+◌}
use Rattle.std.specs.Prelude.{Bool, ◌&&◌, ◌≡◌}
use Rattle.std.proofs.Math.Bool.{true, false}
use Rattle.std.proofs.Math.Path.{refl}
use mathlib.Core.List.{List, [], ◌∷◌, ◌++◌}
use Rattle.std.proofs.Math.Dec.{eqb}
use borrow.Author.Tests.{not-true}
use Rattle.spec_format.specs.Bytes.{spaces, all, but}
use Rattle.spec_texts_back.specs.Tests.{all_head, all_tail}

-- the text with its quotes doubled (where q says so) and its lines indented
unfoldable pub laid : Bool → ℕ → List ℕ → List ℕ
laid q indent [] = []
laid q indent (b ∷ t) =
    elim (q && eqb b 34) [ true ↦ 34 ∷ 34 ∷ laid q indent t | false ↦ elim (eqb b 10) [ true ↦ 10 ∷ spaces indent ++ laid q indent t | false ↦ b ∷ laid q indent t ] ]

-- the closing quote, if there is one, and the last line's end
abbrev pub ending : Bool → List ℕ
ending false = 10 ∷ []
ending true = 34 ∷ 10 ∷ []

-- unquoted, of one line: the text itself
pub laid_one : (indent : ℕ) (t : List ℕ) → all (but 10) t ≡ true → laid false indent t ≡ t
unfolding laid
laid_one indent [] h = refl
laid_one indent (b ∷ t) h = cc (not-true (eqb b 10) (all_head (but 10) b t h), laid_one indent t (all_tail (but 10) b t h))
