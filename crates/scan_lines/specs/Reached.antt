-- What the line reader promises: the line at its place, by the definition of lines, the place after it, and the count of lines, which is a law of the places.
use Rattle.std.specs.Prelude.{ℕ, zero, suc, ◌+◌, ◌≤◌, ◌<◌, ◌≡◌, Bool, true, false, List, [], ◌∷◌, length, take, drop, eqb}
use Rattle.spec_format.specs.Readers.{line}
use Rattle.spec_lines.specs.Lines.{feeds}
use Rattle.scan_bytes.specs.Views.{Lined}
use Rattle.scan_bytes.specs.declared.Line.{Line}
use Rattle.scan_bytes.specs.declared.Line.TheVariants as lines
use Rattle.scan_lines.specs.declared.Taken.{Taken}
use Rattle.scan_lines.specs.declared.LineReader.{LineReader}

-- the place after a line that was asked for at a place: where there is none, that place
abbrev pub after_line : ℕ → Line → ℕ
after_line at (lines.Got end next) = next
after_line at lines.No = at
after_line at lines.Cut = at

-- what is left after the next LF
unfoldable pub after_feed : List ℕ → List ℕ
after_feed [] = []
after_feed (b ∷ s) = elim (eqb b 10) [ true ↦ s | false ↦ after_feed s ]

-- how many lines end before a place
abbrev pub ended : List ℕ → ℕ → ℕ
ended s p = feeds (take p s)

-- a line that was read is one more; where there is none, none
abbrev pub line_more : Line → ℕ
line_more (lines.Got end next) = 1
line_more lines.No = 0
line_more lines.Cut = 0

-- one more, where a line ends from a place on; where no LF stands there, none
abbrev pub one_of : ℕ → ℕ
one_of zero = 0
one_of (suc n) = 1

abbrev pub feed_more : List ℕ → ℕ → ℕ
feed_more s p = one_of (feeds (drop p s))

pub record Fetched (s : List ℕ) (at : ℕ) (t : Taken) : Type 0 where
  pub is : Lined s at (line (drop at s)) t.line
  pub moved : t.next ≡ after_line at t.line
  pub counted : ended s t.next ≡ ended s at + line_more t.line

-- where a test of n bytes without a branch holds, the next LF is the same from behind them
pub record Feedless (s : List ℕ) (at n : ℕ) (r : Bool) : Type 0 where
  pub go : r ≡ true → after_feed (drop at s) ≡ after_feed (drop (at + n) s)

pub record Unfed (s : List ℕ) (at r : ℕ) : Type 0 where
  pub is : after_feed (drop at s) ≡ after_feed (drop r s)
  pub from : at ≤ r
  pub within : at ≤ length s → r ≤ length s

-- from a place inside, a byte further at least; no line ends before the last byte that was passed
pub record Fed (s : List ℕ) (at r : ℕ) : Type 0 where
  pub is : drop r s ≡ after_feed (drop at s)
  pub counted : ended s r ≡ ended s at + feed_more s at
  pub inside : (k : ℕ) → at ≤ k → k < r → ended s k ≡ ended s at
  pub from : at ≤ r
  pub further : at < length s → at < r
  pub within : at ≤ length s → r ≤ length s

-- the reader with its place moved
abbrev pub reached : LineReader → ℕ → LineReader
reached l n = record { input = l.input; place = n }

pub record NextLine (l : LineReader) (r : Line) (l' : LineReader) : Type 0 where
  pub is : Lined l.input.now l.place (line (drop l.place l.input.now)) r
  pub moved : l' ≡ reached l (after_line l.place r)
  pub counted : ended l.input.now l'.place ≡ ended l.input.now l.place + line_more r

pub record NextFeed (l : LineReader) (r : ℕ) (l' : LineReader) : Type 0 where
  pub is : Fed l.input.now l.place r
  pub moved : l' ≡ reached l r
  pub counted : ended l.input.now l'.place ≡ ended l.input.now l.place + feed_more l.input.now l.place
