-- The code's answers as readers' answers: a place of a slice stands for the bytes from there on.
use Rattle.std.specs.Prelude.{ℕ, ◌≤◌, ◌<◌, ◌≡◌, List, [], length, drop}
use Rattle.scan_bytes.specs.Places.{part}
use Rattle.spec_format.specs.Readers.{Ans, got, no, cut}
use Rattle.scan_bytes.specs.declared.Step.{Step}
use Rattle.scan_bytes.specs.declared.Step.TheVariants as step
use Rattle.scan_bytes.specs.declared.Line.{Line}
use Rattle.scan_bytes.specs.declared.Line.TheVariants as line

-- a step whose value is of no interest
abbrev pub step_of : List ℕ → Step → Ans Unit
step_of s (step.Got n) = got tt (drop n s)
step_of s step.No = no
step_of s step.Cut = cut

-- a step from `at` on whose value is the text that it passed
abbrev pub text_of : List ℕ → ℕ → Step → Ans (List ℕ)
text_of s at (step.Got n) = got (part at n s) (drop n s)
text_of s at step.No = no
text_of s at step.Cut = cut

-- a step whose value is the empty text
abbrev pub empty_of : List ℕ → Step → Ans (List ℕ)
empty_of s (step.Got n) = got [] (drop n s)
empty_of s step.No = no
empty_of s step.Cut = cut

abbrev pub Past : List ℕ → ℕ → Step → Type 0
Past s at (step.Got n) = (at ≤ n) × (n ≤ length s)
Past s at step.No = Unit
Past s at step.Cut = Unit

-- at least a byte further
abbrev pub PastOne : List ℕ → ℕ → Step → Type 0
PastOne s at (step.Got n) = (at < n) × (n ≤ length s)
PastOne s at step.No = Unit
PastOne s at step.Cut = Unit

pub record Stepped (s : List ℕ) (at : ℕ) (o : Ans Unit) (r : Step) : Type 0 where
  pub is : step_of s r ≡ o
  pub place : Past s at r

pub record Texted (s : List ℕ) (at : ℕ) (o : Ans (List ℕ)) (r : Step) : Type 0 where
  pub is : text_of s at r ≡ o
  pub place : Past s at r

pub record Emptied (s : List ℕ) (at : ℕ) (o : Ans (List ℕ)) (r : Step) : Type 0 where
  pub is : empty_of s r ≡ o
  pub place : PastOne s at r

-- a line whose text is from `at` up to `end`
abbrev pub line_of : List ℕ → ℕ → Line → Ans (List ℕ)
line_of s at (line.Got end next) = got (part at end s) (drop next s)
line_of s at line.No = no
line_of s at line.Cut = cut

abbrev pub PastLine : List ℕ → ℕ → Line → Type 0
PastLine s at (line.Got end next) = (at ≤ end) × (end < next) × (next ≤ length s)
PastLine s at line.No = Unit
PastLine s at line.Cut = Unit

pub record Lined (s : List ℕ) (at : ℕ) (o : Ans (List ℕ)) (r : Line) : Type 0 where
  pub is : line_of s at r ≡ o
  pub place : PastLine s at r
