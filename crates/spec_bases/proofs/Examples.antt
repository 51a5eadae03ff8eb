-- Document 02's sentence about the letters, computed: the set of each, the same in either case, and none for the ten others.
use Prim.Native.Nat.{ℕ}
use Prim.Native.Char.{code}
use Prim.Native.String as S
use Prim.Native.String.{String}
use mathlib.Core.List.{List, [], ◌∷◌}
use mathlib.Core.Path.{◌≡◌, refl}
use Rattle.spec_bases.specs.Bases.{set_of}

abbrev pub sets_of : String → List ℕ
sets_of S.[] = []
sets_of (S.◌∷◌ c s) = set_of (code c) ∷ sets_of s

-- A, C, G, T, and U as T; two bases; all but A, C, G, T in turn; all
pub bases_are : sets_of "ACGTU" ≡ 1 ∷ 2 ∷ 4 ∷ 8 ∷ 8 ∷ []
unfolding set_of
bases_are = refl

pub pairs_are : sets_of "RYSWKM" ≡ 5 ∷ 10 ∷ 6 ∷ 9 ∷ 12 ∷ 3 ∷ []
unfolding set_of
pairs_are = refl

pub others_are : sets_of "BDHVN" ≡ 14 ∷ 13 ∷ 11 ∷ 7 ∷ 15 ∷ []
unfolding set_of
others_are = refl

pub small_alike : sets_of "acgturyswkmbdhvn" ≡ sets_of "ACGTURYSWKMBDHVN"
unfolding set_of
small_alike = refl

pub no_codes : sets_of "EFIJLOPQXZefijlopqxz" ≡ 0 ∷ 0 ∷ 0 ∷ 0 ∷ 0 ∷ 0 ∷ 0 ∷ 0 ∷ 0 ∷ 0 ∷ 0 ∷ 0 ∷ 0 ∷ 0 ∷ 0 ∷ 0 ∷ 0 ∷ 0 ∷ 0 ∷ 0 ∷ []
unfolding set_of
no_codes = refl

pub none_but_letters : sets_of "@[`{0 -/" ≡ 0 ∷ 0 ∷ 0 ∷ 0 ∷ 0 ∷ 0 ∷ 0 ∷ 0 ∷ []
unfolding set_of
none_but_letters = refl
