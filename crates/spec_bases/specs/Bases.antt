-- The IUPAC codes (document 02, ticket 6): "Each letter stands for a set of the four bases". A set is a number below 16: the sum of 1 for A, 2 for C, 4 for G and 8
-- for T, as far as they are in it (document 01: "Four-bit masks").
use Rattle.std.specs.Prelude.{ℕ, ◌+◌, ◌-◌, Bool, not, cond, List, [], ◌∷◌, eqb, leb}
use Prim.Native.Char.{code}
use Prim.Native.String as S
use Prim.Native.String.{String}

-- the set beside a letter in two lists, and 0, the empty one, for what is not there
abbrev pub set_among : String → List ℕ → ℕ → ℕ
set_among S.[] ms b = 0
set_among (S.◌∷◌ c s) [] b = 0
set_among (S.◌∷◌ c s) (m ∷ ms) b = cond (eqb b (code c)) m (set_among s ms b)

-- "A, C, G, T, with U read as T; R is A or G, Y is C or T, S is C or G, W is A or T, K is G or T, M is A or C; B, D, H, V leave out A, C, G, T in turn; N is all"
abbrev pub capitals : String
capitals = "ACGTURYSWKMBDHVN"

abbrev pub sets : List ℕ
sets =
    1 ∷ 2 ∷ 4 ∷ 8 ∷ 8 ∷ (1 + 4) ∷ (2 + 8) ∷ (2 + 4) ∷ (1 + 8) ∷ (4 + 8) ∷ (1 + 2) ∷ (2 + 4 + 8) ∷ (1 + 4 + 8) ∷ (1 + 2 + 8) ∷ (1 + 2 + 4) ∷ (1 + 2 + 4 + 8) ∷
    []

-- a small letter has its capital's
unfoldable pub set_of : ℕ → ℕ
set_of b = set_among capitals sets (cond (leb 97 b) (b - 32) b)

-- a letter has a code if its set is not empty
abbrev pub coded : ℕ → Bool
coded b = not (eqb (set_of b) 0)
