-- The tests of small letters are the codes' own: computed for every byte.
use Prim.Native.Nat.{ℕ, ◌<◌}
use mathlib.Core.Bool.{Bool, true, false, not, ◌||◌}
use mathlib.Core.Path.{◌≡◌, refl}
use lib.Bits.{bit_or}
use lib.Dec.{T, eqb}
use Rattle.spec_bases.specs.Bases.{coded}
use Rattle.spec_bases.specs.Tests.{below}
use Rattle.spec_bases.proofs.Tests.{at_each}
use Rattle.spec_format.specs.Bytes.{between}
use Rattle.scan_bases.specs.Common.{common}

abbrev pub same : Bool → Bool → Bool
same true b = b
same false b = not b

same_is : (a b : Bool) → T (same a b) → a ≡ b
same_is true true t = refl
same_is true false t = absurd t
same_is false true t = absurd t
same_is false false t = refl

-- the test is computed where the law is cited, with the numbers that stand in the code
abbrev pub in_ranges : ℕ → ℕ → ℕ → ℕ → ℕ → ℕ → ℕ → ℕ → ℕ → ℕ → ℕ → Bool
in_ranges a d g h k m n r w y c = (between a d c || (between g h c || eqb c k)) || (between m n c || (between r w c || eqb c y))

pub coded_tested : (a d g h k m n r w y b : ℕ) → T (below 256 (λ x. same (in_ranges a d g h k m n r w y (bit_or x 32)) (coded x))) → b < 256 →
    in_ranges a d g h k m n r w y (bit_or b 32) ≡ coded b
coded_tested a d g h k m n r w y b t l = same_is _ _ (at_each 256 (λ x. same (in_ranges a d g h k m n r w y (bit_or x 32)) (coded x)) t b l)

abbrev pub in_six : ℕ → ℕ → ℕ → ℕ → ℕ → ℕ → ℕ → Bool
in_six i j k l m n c = (eqb c i || (eqb c j || eqb c k)) || (eqb c l || (eqb c m || eqb c n))

pub common_tested : (i j k l m n b : ℕ) → T (below 256 (λ x. same (in_six i j k l m n (bit_or x 32)) (common x))) → b < 256 → in_six i j k l m n (bit_or b 32) ≡ common b
common_tested i j k l m n b t h = same_is _ _ (at_each 256 (λ x. same (in_six i j k l m n (bit_or x 32)) (common x)) t b h)
