-- A line whose text must pass a test, by the line's own answer. Assumes nothing.
use Prim.Native.Nat.{ℕ}
use mathlib.Core.Path.{◌≡◌}
use mathlib.Core.Bool.{Bool, true, false}
use mathlib.Core.List.{List}
use Rattle.spec_format.specs.Readers.{Ans, passing}
use Rattle.scan_bytes.specs.declared.Line.{Line}
use Rattle.scan_bytes.specs.declared.Line.TheVariants as line
use Rattle.scan_bytes.specs.Places.{part}
use Rattle.scan_bytes.specs.Views.{Lined}
use Rattle.scan_bytes.specs.Sequence.{line_places}

module _ (s : List ℕ) (at : ℕ) (o : Ans (List ℕ)) (r : Line) (h : Lined s at o r) where
  pub test_no : (p : List ℕ → Bool) → r ≡ line.No → Lined s at (passing p o) line.No
  test_no p e = record { is = rw (← h.is, e); place = tt }

  pub test_cut : (p : List ℕ → Bool) → r ≡ line.Cut → Lined s at (passing p o) line.Cut
  test_cut p e = record { is = rw (← h.is, e); place = tt }

  pub test_true : (p : List ℕ → Bool) (end next : ℕ) (b : Bool) → r ≡ line.Got end next → b ≡ p (part at end s) → b ≡ true → Lined s at (passing p o) (line.Got end next)
  test_true p end next b e k t = record { is = rw (← h.is, e, ← k, t); place = line_places h e }

  pub test_false : (p : List ℕ → Bool) (end next : ℕ) (b : Bool) → r ≡ line.Got end next → b ≡ p (part at end s) → b ≡ false → Lined s at (passing p o) line.No
  test_false p end next b e k t = record { is = rw (← h.is, e, ← k, t); place = tt }

pub ruleset tested = (test_no, test_cut, test_true, test_false)
