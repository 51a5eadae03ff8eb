-- What passing a line before LOCUS says.
use Rattle.std.specs.Prelude.{ℕ, ◌≤◌, ◌<◌, Bool, true, false, ◌≡◌, List, length, drop}
use Rattle.spec_format.specs.Bytes.{bytes}
use Rattle.spec_format.specs.Readers.{Ans, got, no, cut, tag, line, end}
use Rattle.spec_format.specs.Locus.{preamble_turn}
use Rattle.scan_bytes.specs.Views.{Stepped, Lined}
use Rattle.scan_bytes.specs.declared.Step.{Step}
use Rattle.scan_bytes.specs.declared.Line.{Line}
use Rattle.scan_lines.specs.Reached.{after_line}
use Rattle.read_preamble.specs.declared.Turn.{Turn}

abbrev pub is_got : {A : Type 0} → Ans A → Bool
is_got (got a s) = true
is_got no = false
is_got cut = false

abbrev pub stopped : Step → Turn
stopped r = record { more = false; answer = r }

-- no line from `at` up to p begins LOCUS, and each is UTF-8: the answer is that from p on, where another line is to be passed
pub record Before (s : List ℕ) (at p : ℕ) : Type 0 where
  pub same : end preamble_turn (drop at s) ≡ end preamble_turn (drop p s)
  pub stands_not : false ≡ is_got (tag (bytes "LOCUS") (drop p s))
  pub from : at ≤ p
  pub within : p ≤ length s

-- from `at` to p: more lines are to be passed, or the answer is clear
pub record Gone (s : List ℕ) (at p : ℕ) (t : Turn) : Type 0 where
  pub before : t.more ≡ true → Before s at p
  pub done : t.more ≡ false → Stepped s at (end preamble_turn (drop at s)) t.answer

-- a line that does not begin LOCUS was read
pub record Read (s : List ℕ) (at : ℕ) (r : Line) : Type 0 where
  pub is : Lined s at (line (drop at s)) r
  pub stands_not : false ≡ is_got (tag (bytes "LOCUS") (drop at s))
  pub within : at ≤ length s

pub record Passed (s : List ℕ) (at : ℕ) (r : Line) (t : Turn) : Type 0 where
  pub gone : Gone s at (after_line at r) t
  pub further : t.more ≡ true → at < after_line at r
