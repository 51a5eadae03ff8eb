-- Bytes and lists of bytes: the words, tests and numbers that every other definition is made of.
use Rattle.std.specs.Prelude.{ℕ, zero, suc, ◌+◌, ◌-◌, ◌*◌, ◌/◌, ◌%◌, Bool, true, false, ◌&&◌, ◌||◌, not, List, [], ◌∷◌, ◌++◌, replicate, eqb, ltb, leb}
use Prim.Native.Char.{code}
use Prim.Native.String as S
use Prim.Native.String.{String}

-- for a definition that goes by a test
abbrev pub pick {ℓ} : {X : Type ℓ} → Bool → X → X → X
pick true x y = x
pick false x y = y

-- what may be absent
pub data May (A : Type 0) : Type 0 where
  absent : May A
  is : A → May A

-- the bytes of a word in ASCII
abbrev pub bytes : String → List ℕ
bytes S.[] = []
bytes (S.◌∷◌ c s) = code c ∷ bytes s

abbrev pub spaces : ℕ → List ℕ
spaces n = replicate n 32

abbrev pub some : {A : Type 0} → List A → Bool
some [] = false
some (x ∷ xs) = true

-- the first byte passes p
abbrev pub starts : (ℕ → Bool) → List ℕ → Bool
starts p [] = false
starts p (b ∷ s) = p b

-- each passes p
abbrev pub all : {A : Type 0} → (A → Bool) → List A → Bool
all p [] = true
all p (x ∷ xs) = p x && all p xs

abbrev pub same : List ℕ → List ℕ → Bool
same [] [] = true
same [] (c ∷ t) = false
same (b ∷ s) [] = false
same (b ∷ s) (c ∷ t) = eqb b c && same s t

abbrev pub among : List ℕ → List (List ℕ) → Bool
among k [] = false
among k (x ∷ l) = same k x || among k l

-- what f makes of each, one after the other
abbrev pub each : {A : Type 0} → (A → List ℕ) → List A → List ℕ
each f [] = []
each f (x ∷ xs) = f x ++ each f xs

-- the lists one after the other
abbrev pub concat : List (List ℕ) → List ℕ
concat [] = []
concat (x ∷ xs) = x ++ concat xs

abbrev pub between : ℕ → ℕ → ℕ → Bool
between lo hi b = leb lo b && leb b hi

-- 33 to 126
abbrev pub visible : ℕ → Bool
visible b = between 33 126 b

-- 32 to 126
abbrev pub printing : ℕ → Bool
printing b = between 32 126 b

abbrev pub digit : ℕ → Bool
digit b = between 48 57 b

-- an ASCII letter
abbrev pub letter : ℕ → Bool
letter b = between 65 90 b || between 97 122 b

-- a space or a tab
abbrev pub blank : ℕ → Bool
blank b = eqb b 32 || eqb b 9

abbrev pub space : ℕ → Bool
space b = eqb b 32

abbrev pub quote : ℕ → Bool
quote b = eqb b 34

abbrev pub slash : ℕ → Bool
slash b = eqb b 47

abbrev pub not_blank : ℕ → Bool
not_blank b = not (blank b)

-- any byte but c
abbrev pub but : ℕ → ℕ → Bool
but c b = not (eqb b c)

-- the number that decimal digits stand for, after v
unfoldable pub number : ℕ → List ℕ → ℕ
number v [] = v
number v (b ∷ t) = number (10 * v + (b - 48)) t

-- n in decimal, of f digits at most
unfoldable pub digits : ℕ → ℕ → List ℕ
digits zero n = []
digits (suc f) n = elim (ltb n 10) [ true ↦ (48 + n) ∷ [] | false ↦ digits f (n / 10) ++ (48 + n % 10) ∷ [] ]

-- n in decimal; the largest number that is written, 4,294,967,295, has ten digits
abbrev pub decimal : ℕ → List ℕ
decimal n = digits 10 n
