-- Where a scan over a slice stops: at the first byte that passes a test, or at the slice's end.
use Rattle.std.specs.Prelude.{ℕ, suc, ◌+◌, ◌-◌, ◌≤◌, ◌<◌, ◌≡◌, Bool, true, false, ◌||◌, List, [], ◌∷◌, length, take, drop, get_or, eqb, leb}
use Rattle.spec_format.specs.Bytes.{pick, spaces}
use Rattle.spec_format.specs.Readers.{got, tag}
use Rattle.scan_bytes.specs.declared.Step.{Step}
use Rattle.scan_bytes.specs.declared.Step.TheVariants as step

-- the bytes from a place up to another
abbrev pub part : ℕ → ℕ → List ℕ → List ℕ
part from to s = take (to - from) (drop from s)

-- how many bytes stand before the first that is p
unfoldable pub span : (ℕ → Bool) → List ℕ → ℕ
span p [] = 0
span p (b ∷ s) = elim (p b) [ true ↦ 0 | false ↦ suc (span p s) ]

-- the place of the first byte from i on that is p, or the end
unfoldable pub scan : (ℕ → Bool) → List ℕ → ℕ → ℕ
scan p s i = i + span p (drop i s)

pub record Scanned (p : ℕ → Bool) (s : List ℕ) (at r : ℕ) : Type 0 where
  pub is : r ≡ scan p s at
  pub from : at ≤ r
  pub within : r ≤ length s

-- LF or CR
abbrev pub line_stop : ℕ → Bool
line_stop b = eqb b 10 || eqb b 13

-- r holds only where the n bytes from `at` on are all passed by
pub record Passes (p : ℕ → Bool) (s : List ℕ) (at n : ℕ) (r : Bool) : Type 0 where
  pub go : r ≡ true → scan p s at ≡ scan p s (at + n)

-- r holds only where the n bytes from `at` on are spaces
pub record Spaced (s : List ℕ) (at n : ℕ) (r : Bool) : Type 0 where
  pub go : r ≡ true → (j : ℕ) → j < n → get_or s (at + j) 0 ≡ 32

-- the same, as the tag of that many spaces
pub record Indented (s : List ℕ) (at n : ℕ) (r : Bool) : Type 0 where
  pub go : r ≡ true → got tt (drop (at + n) s) ≡ tag (spaces n) (drop at s)
  pub within : r ≡ true → at + n ≤ length s

-- a stop at e, in n bytes; and one that must have passed a byte from `at` on
abbrev pub stop_at : ℕ → ℕ → Step
stop_at n e = pick (leb n e) step.Cut (step.Got e)

abbrev pub stop_after : ℕ → ℕ → ℕ → Step
stop_after n at e = pick (leb n e) step.Cut (pick (eqb e at) step.No (step.Got e))
