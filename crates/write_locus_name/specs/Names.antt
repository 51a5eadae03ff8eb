-- The name that a LOCUS line prints, and number 11's test of it.
use Rattle.std.specs.Prelude.{ℕ, ◌+◌, ◌-◌, ◌≤◌, ◌<◌, ◌≡◌, Bool, true, false, ◌&&◌, List, length, take, Option}
use Rattle.std.specs.Option.{option_or}
use Rattle.std.proofs.Common.{arith, take_all, lt-ltb, le-ltb}
use Rattle.spec_format.specs.Bytes.{some, all, printing}
use Rattle.spec_format.specs.declared.Span.{Span}
use Rattle.spec_format.specs.Write.{truncated, escaped_name}

-- the name to print: LOCUS's, else ACCESSION
abbrev pub chosen : Option Span → Option Span → Option Span
chosen name accession = option_or name accession

-- what number 11 asks of a printed name
abbrev pub name_test : List ℕ → Bool
name_test name = some name && all printing name

-- a name beside a length, which is given as its digits
abbrev pub printed_of : Bool → Bool → List ℕ → List ℕ → List ℕ
printed_of truncate escape digits name = escaped_name escape (truncated truncate (length digits) name)

-- what a caller of `kept` learns
pub record Kept (on : Bool) (d : ℕ) (name : List ℕ) (r : ℕ) : Type 0 where
  pub is : take r name ≡ truncated on d name
  pub inside : r ≤ length name

pub kept_cut : (d : ℕ) (name : List ℕ) → d ≤ 10 → 28 < length name + 1 + d → Kept true d name (27 - d)
kept_cut d name k h = record { is = rw (lt-ltb 28 (length name + 1 + d) h); inside = omega arith }

pub kept_short : (d : ℕ) (name : List ℕ) → length name + 1 + d ≤ 28 → Kept true d name (length name)
kept_short d name h = record { is = rw (le-ltb 28 (length name + 1 + d) h) (take_all (length name) name (omega arith)); inside = omega arith }

pub kept_all : (d : ℕ) (name : List ℕ) → Kept false d name (length name)
kept_all d name = record { is = take_all (length name) name (omega arith); inside = omega arith }
