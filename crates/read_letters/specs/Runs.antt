-- What the functions over the letters promise, and the laws by which a run of bytes adds its letters.
use Rattle.std.specs.Prelude.{ℕ, zero, suc, ◌+◌, ◌≤◌, ◌<◌, ◌≡◌, refl, Bool, true, false, ◌&&◌, List, [], ◌∷◌, ◌++◌, eqb, length, take, drop, get_or}
use Rattle.std.proofs.Common.{sym, ap, ◌∙◌, append_assoc, arith}
use Rattle.spec_format.specs.Bytes.{letter}
use Rattle.spec_bases.specs.Bases.{coded}
use Rattle.spec_format.specs.Origin.{Letters, at_slash, at_end, bad_byte, keep, skipped}
use Rattle.read_letters.specs.declared.Counted.{Counted}
use Rattle.read_letters.specs.declared.Counted.TheVariants as counted

-- the letters that are taken: all, or with the strict switch those that have a code
abbrev pub taken : Bool → ℕ → Bool
taken false b = letter b
taken true b = coded b

-- `letters`, where a letter that is not taken ends them as a bad byte does
unfoldable pub letters_by : Bool → List ℕ → Letters
letters_by strict [] = at_end []
letters_by strict (b ∷ s) =
    elim (taken strict b) [
      | true ↦ keep b (letters_by strict s)
      | false ↦ elim (eqb b 47) [ true ↦ at_slash [] (b ∷ s) | false ↦ elim (skipped b) [ true ↦ letters_by strict s | false ↦ bad_byte (b ∷ s) ] ]
    ]

-- how many letters there are, and where they end
pub data Tally : Type 0 where
  slash : ℕ → List ℕ → Tally
  end : ℕ → Tally
  bad : List ℕ → Tally

abbrev pub tally : Letters → Tally
tally (at_slash l r) = slash (length l) r
tally (at_end l) = end (length l)
tally (bad_byte r) = bad r

abbrev pub tally_of : List ℕ → Counted → Tally
tally_of s (counted.AtSlash n next) = slash n (drop next s)
tally_of s (counted.AtEnd n) = end n
tally_of s (counted.Bad next) = bad (drop next s)

-- n letters more
abbrev pub plus : ℕ → Tally → Tally
plus k (slash n r) = slash (k + n) r
plus k (end n) = end (k + n)
plus k (bad r) = bad r

abbrev pub PastCounted : List ℕ → ℕ → Counted → Type 0
PastCounted s at (counted.AtSlash n next) = (n + at ≤ next) × (next ≤ length s)
PastCounted s at (counted.AtEnd n) = n + at ≤ length s
PastCounted s at (counted.Bad next) = (at ≤ next) × (next < length s)

-- the count of the letters at a place, with n more
pub record Counts (s : List ℕ) (at : ℕ) (o : Tally) (r : Counted) : Type 0 where
  pub is : tally_of s r ≡ o
  pub place : PastCounted s at r

-- all letters up to the first byte that ends them
unfoldable pub sifted : List ℕ → List ℕ
sifted [] = []
sifted (b ∷ s) = elim (letter b) [ true ↦ b ∷ sifted s | false ↦ elim (eqb b 47) [ true ↦ [] | false ↦ elim (skipped b) [ true ↦ sifted s | false ↦ [] ] ] ]

abbrev pub keeps : List ℕ → Letters → Letters
keeps [] x = x
keeps (b ∷ w) x = keep b (keeps w x)

-- the bytes from one place up to another add the letters w
pub record Run (strict : Bool) (s : List ℕ) (at to : ℕ) (w : List ℕ) : Type 0 where
  pub all : letters_by strict (drop at s) ≡ keeps w (letters_by strict (drop to s))
  pub text : sifted (drop at s) ≡ w ++ sifted (drop to s)

-- what a test of bytes without a branch says where it holds
pub record Runs (strict : Bool) (s : List ℕ) (at to : ℕ) (w : List ℕ) (r : Bool) : Type 0 where
  pub go : r ≡ true → Run strict s at to w

-- the same of bytes that add none, with the switch and without
pub record Skips (s : List ℕ) (at to : ℕ) (r : Bool) : Type 0 where
  pub go : r ≡ true → (strict : Bool) → Run strict s at to []

keeps_append : (v w : List ℕ) (x : Letters) → keeps v (keeps w x) ≡ keeps (v ++ w) x
keeps_append [] w x = refl
keeps_append (b ∷ v) w x = ap (keep b) (keeps_append v w x)

pub run_none : (strict : Bool) (s : List ℕ) (at : ℕ) → Run strict s at at []
run_none strict s at = record { all = refl; text = refl }

pub run_append : {strict : Bool} {s : List ℕ} {a b c : ℕ} {v w : List ℕ} → Run strict s a b v → Run strict s b c w → Run strict s a c (v ++ w)
run_append {strict} {s} {a} {b} {c} {v} {w} p q =
    record {
      all = p.all ∙ ap (keeps v) q.all ∙ keeps_append v w (letters_by strict (drop c s));
      text = p.text ∙ ap (λ (x : List ℕ). v ++ x) q.text ∙ sym (append_assoc v w (sifted (drop c s)));
    }

pub tally_keeps : (w : List ℕ) (x : Letters) → tally (keeps w x) ≡ plus (length w) (tally x)
tally_keeps [] (at_slash l r) = ap (λ (n : ℕ). slash n r) (omega arith)
tally_keeps [] (at_end l) = ap end (omega arith)
tally_keeps [] (bad_byte r) = refl
tally_keeps (b ∷ w) x = one (keeps w x) ∙ ap (plus 1) (tally_keeps w x) ∙ twice (tally x)
  where
    one : (y : Letters) → tally (keep b y) ≡ plus 1 (tally y)
    one (at_slash l r) = ap (λ (n : ℕ). slash n r) (omega arith)
    one (at_end l) = ap end (omega arith)
    one (bad_byte r) = refl

    twice : (y : Tally) → plus 1 (plus (length w) y) ≡ plus (suc (length w)) y
    twice (slash n r) = ap (λ (k : ℕ). slash k r) (omega arith)
    twice (end n) = ap end (omega arith)
    twice (bad r) = refl

abbrev pub one : Bool → ℕ
one true = 1
one false = 0

-- how many of the n bytes at a place pass p
unfoldable pub count_in : (ℕ → Bool) → List ℕ → ℕ → ℕ → ℕ
count_in p s at zero = 0
count_in p s at (suc n) = count_in p s at n + one (p (get_or s (at + n) 0))

-- spaces before three groups of ten
abbrev pub spaced : List ℕ → ℕ → Bool
spaced s at = eqb (get_or s at 0) 32 && (eqb (get_or s (at + 11) 0) 32 && eqb (get_or s (at + 22) 0) 32)

-- the ten letters after a byte, three such groups, and the six of a line
abbrev pub ten : List ℕ → ℕ → List ℕ
ten s at = take 10 (drop at s)

abbrev pub thirty_of : List ℕ → ℕ → List ℕ
thirty_of s at = ten s (at + 1) ++ (ten s (at + 12) ++ ten s (at + 23))

abbrev pub sixty_of : List ℕ → ℕ → List ℕ
sixty_of s at = thirty_of s (at + 9) ++ thirty_of s (at + 42)
