-- Lines that are broken at commas: each but the last ends with a comma, or is full. That the written ones are so: proofs/CommaLines.antt.
use Rattle.std.specs.Prelude.{ℕ, ◌+◌, ◌-◌, ◌≤◌, ◌<◌, Bool, true, false, ◌&&◌, ◌||◌, ◌≡◌, refl, List, ◌++◌, length, take, eqb}
use Rattle.std.proofs.Common.{arith, eq-eqb}
use Rattle.spec_format.specs.Bytes.{concat}
use Rattle.spec_public.specs.Public.{no_comma, ends_in_comma, broken_at_commas}
use Rattle.spec_columns.specs.Lines.{Laid}

-- ---- a line

-- a line of n columns that ends with a comma, or has none and is full
abbrev pub broken_line : ℕ → List ℕ → Bool
broken_line n l = ends_in_comma l || (no_comma l && eqb (length l) n)

pub by_width : (n : ℕ) (l : List ℕ) → no_comma l ≡ true → length l ≡ n → broken_line n l ≡ true
by_width n l p h = go (ends_in_comma l)
  where
    go : (x : Bool) → (x || (no_comma l && eqb (length l) n)) ≡ true
    go true = refl
    go false = cc (p, eq-eqb (length l) n (omega arith))

-- where a line of n columns is broken: after a byte at least and n at most
pub record Break (n : ℕ) (t : List ℕ) (k : ℕ) : Type 0 where
  pub some : 0 < k
  pub most : k ≤ n
  pub by : broken_line n (take k t) ≡ true

-- ---- all lines

-- a text t that is broken at commas: its first line meets `opens`, and it goes on from column a; the lines join to t; each but the last ends with a comma, or
-- has none and is full, with `first` bytes in the first line and `later` in one after it (t has no LF: number 11 asks for bytes 33 to 126)
pub record BrokenLines (opens : List ℕ → List ℕ → Bool) (a first later : ℕ) (t written : List ℕ) : Type 0 where
  pub line : List ℕ
  pub lines : List (List ℕ)
  pub lies : Laid opens a line lines written
  pub whole : line ++ concat lines ≡ t
  pub broken : broken_at_commas first later line lines ≡ true
