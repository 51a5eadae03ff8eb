-- Tokens of a LOCUS line in a slice, and what the functions over them promise.
use Rattle.std.specs.Prelude.{ℕ, zero, suc, ◌+◌, ◌-◌, ◌≤◌, ◌<◌, ◌^◌, ◌≡◌, Bool, true, false, ◌&&◌, ◌||◌, List, [], ◌∷◌, length, take, drop, leb, Option, Some, None}
use Rattle.spec_format.specs.Bytes.{pick, all, same, digit, blank, visible, number}
use Rattle.spec_format.specs.Dates.{made, months}
use Rattle.spec_format.specs.Locus.{tokens, place_in}
use Rattle.spec_format.specs.declared.Date.{Date}
use Rattle.spec_format.specs.declared.Span.{Span}
use Rattle.read_locus_tokens.specs.declared.Token.{Token}
use Rattle.read_locus_tokens.specs.declared.Token.TheVariants as token
use Rattle.read_locus_tokens.specs.declared.Decimal.{Decimal}
use Rattle.read_locus_tokens.specs.declared.Decimal.TheVariants as decimal

-- the bytes of a slice from one place up to another
abbrev pub cut : List ℕ → ℕ → ℕ → List ℕ
cut s from to = take (to - from) (drop from s)

abbrev pub spanned : List ℕ → Span → List ℕ
spanned s x = take x.length (drop x.start s)

-- a span that ends at a place at most
abbrev pub Ends : ℕ → Span → Type 0
Ends to x = x.start + x.length ≤ to

-- how many bytes at the front of a list pass the test p
unfoldable pub passed : (ℕ → Bool) → List ℕ → ℕ
passed p [] = 0
passed p (b ∷ s) = elim (p b) [ true ↦ suc (passed p s) | false ↦ 0 ]

-- the first place from `at` on whose byte fails the test p, or `to`
pub record Scanned (p : ℕ → Bool) (s : List ℕ) (at to r : ℕ) : Type 0 where
  pub is : r ≡ at + passed p (cut s at to)
  pub from : at ≤ r
  pub within : r ≤ to

-- a token and the tokens after it, or none
abbrev pub tokens_from : List ℕ → ℕ → Token → List (List ℕ)
tokens_from s to (token.At x e) = spanned s x ∷ tokens (cut s e to)
tokens_from s to token.None = []

abbrev pub TokenEnds : ℕ → ℕ → Token → Type 0
TokenEnds at to (token.At x e) = Ends to x × ((at ≤ e) × (e ≤ to))
TokenEnds at to token.None = Unit

pub record NextToken (s : List ℕ) (at to : ℕ) (r : Token) : Type 0 where
  pub is : tokens_from s to r ≡ tokens (cut s at to)
  pub within : TokenEnds at to r

-- a byte that may stand on a LOCUS line
abbrev pub plain_byte : ℕ → Bool
plain_byte b = blank b || visible b

-- the number of digits that follow v
abbrev pub digits_after : ℕ → List ℕ → Decimal
digits_after v t = pick (all digit t) (decimal.Value (number v t)) decimal.Not

abbrev pub Below : ℕ → Decimal → Type 0
Below n (decimal.Value v) = v < n
Below n decimal.Not = Unit

-- the number that digits stand for, if all are digits
pub record Valued (t : List ℕ) (r : Decimal) : Type 0 where
  pub is : r ≡ digits_after 0 t
  pub small : Below (10 ^ length t) r

-- a length of 1 to 10 digits up to 4,294,967,295
abbrev pub bases_of : List ℕ → Option ℕ
bases_of t = pick (all digit t && (leb (length t) 10 && leb (number 0 t) 4294967295)) (Some (number 0 t)) None

-- the place of a word that may stand before those among which its place is n
abbrev pub place_after : Bool → ℕ → ℕ
place_after here n = elim here [ true ↦ 1 | false ↦ elim n [ zero ↦ 0 | suc k ↦ suc (suc k) ] ]

-- the same for three words a, b, c
pub record Placed (t a b c : List ℕ) (n r : ℕ) : Type 0 where
  pub is : r ≡ place_after (same t a) (place_after (same t b) (place_after (same t c) n))
  pub within : r ≤ n + 3

-- a date whose day and year are digits
abbrev pub date_of_parts : List ℕ → List ℕ → List ℕ → Option Date
date_of_parts d m y = pick (all digit d && all digit y) (made (number 0 d) (place_in m months) (number 0 y)) None
