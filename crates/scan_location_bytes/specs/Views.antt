-- A location's text from a place of a slice on, and what the answers of the scanners of its bytes say of it.
use Rattle.std.specs.Prelude.{ℕ, ◌+◌, ◌≤◌, ◌<◌, ◌≡◌, Bool, true, false, List, [], ◌∷◌, length, drop}
use Rattle.spec_format.specs.Bytes.{pick, May, absent, is, digit}
use Rattle.spec_format.specs.Readers.{Ans, bind, line_end}
use Rattle.spec_format.specs.Location.{run, past, in_accession, in_gap}
use Rattle.spec_format.specs.Deep.{further_start, so_far}
use Rattle.scan_bytes.specs.declared.Step.{Step}
use Rattle.scan_bytes.specs.Views.{step_of, PastOne}
use Rattle.scan_location_bytes.specs.declared.Laid.{Laid}
use Rattle.scan_location_bytes.specs.declared.Laid.TheVariants as laids
use Rattle.scan_location_bytes.specs.declared.Spot.{Spot}
use Rattle.scan_location_bytes.specs.declared.Peek.{Peek}
use Rattle.scan_location_bytes.specs.declared.Peek.TheVariants as peek
use Rattle.scan_location_bytes.specs.declared.Word.{Word}
use Rattle.scan_location_bytes.specs.declared.Word.TheVariants as words
use Rattle.scan_location_bytes.specs.declared.Class.{Class}
use Rattle.scan_location_bytes.specs.declared.Class.TheVariants as class

-- ---- the text

-- the text that begins with the first byte
abbrev pub joined : Laid → List ℕ → List ℕ
joined laids.Piece s = s
joined (laids.Feature indent) s = so_far false indent s
joined (laids.Contig indent) s = so_far true indent s

-- over lines, CONTIG's or a feature's
abbrev pub over_lines : Bool → ℕ → Laid
over_lines contig indent = pick contig (laids.Contig indent) (laids.Feature indent)

-- the text from a place on
abbrev pub view : Laid → List ℕ → ℕ → List ℕ
view laid s at = joined laid (drop at s)

-- the whole text's length, the same at every spot of one reading
abbrev pub total : Laid → List ℕ → Spot → ℕ
total laid s p = p.off + length (view laid s p.at)

-- ---- spots

-- all that a scanner asks of a spot: sums of its numbers do not wrap
pub record Ready (laid : Laid) (s : List ℕ) (p : Spot) : Type 0 where
  pub within : p.at ≤ length s
  pub short : length s ≤ 16777216
  pub below : p.off ≤ p.at

-- a later spot of the same text, with less left
pub record Past (laid : Laid) (s : List ℕ) (p q : Spot) : Type 0 where
  pub up : p.at < q.at
  pub within : q.at ≤ length s
  pub ahead : p.off < q.off
  pub below : q.off ≤ q.at
  pub less : length (view laid s q.at) < length (view laid s p.at)
  pub total : total laid s q ≡ total laid s p

-- a spot of the same text that may be the same
pub record Onto (laid : Laid) (s : List ℕ) (p q : Spot) : Type 0 where
  pub up : p.at ≤ q.at
  pub within : q.at ≤ length s
  pub ahead : p.off ≤ q.off
  pub below : q.off ≤ q.at
  pub total : total laid s q ≡ total laid s p

-- ---- bytes

-- from a line's end to the start of a further line
abbrev pub line_further : Bool → ℕ → List ℕ → Ans Unit
line_further contig indent s = bind (line_end s) λ _ r. further_start contig indent r

-- the start of a further line, at least a byte on
pub record Further (s : List ℕ) (at : ℕ) (o : Ans Unit) (r : Step) : Type 0 where
  pub is : step_of s r ≡ o
  pub place : PastOne s at r

pub record AtByte (laid : Laid) (s : List ℕ) (at b next : ℕ) : Type 0 where
  pub is : view laid s at ≡ b ∷ view laid s next
  pub up : at < next
  pub within : next ≤ length s

abbrev pub PeekIs : Laid → List ℕ → ℕ → Peek → Type 0
PeekIs laid s at peek.End = view laid s at ≡ []
PeekIs laid s at (peek.Byte b next) = AtByte laid s at b next

-- the next byte of the text, or its end
pub record Peeked (laid : Laid) (s : List ℕ) (at : ℕ) (r : Peek) : Type 0 where
  pub by : PeekIs laid s at r

-- ---- words and runs

pub record AtReached (laid : Laid) (s : List ℕ) (p : Spot) (o : May (List ℕ)) (q : Spot) : Type 0 where
  pub is : o ≡ is (view laid s q.at)
  pub past : Past laid s p q

abbrev pub ReachedIs : Laid → List ℕ → Spot → May (List ℕ) → Word → Type 0
ReachedIs laid s p o (words.Past q) = AtReached laid s p o q
ReachedIs laid s p o words.Other = o ≡ absent

-- o is what stands behind a word, or an accession
pub record Reached (laid : Laid) (s : List ℕ) (p : Spot) (o : May (List ℕ)) (r : Word) : Type 0 where
  pub by : ReachedIs laid s p o r

abbrev pub in_class : Class → ℕ → Bool
in_class class.Digits b = digit b
in_class class.Accession b = in_accession b
in_class class.Gap b = in_gap b

-- q is behind the run of bytes that pass c
pub record Ran (c : ℕ → Bool) (laid : Laid) (s : List ℕ) (p q : Spot) : Type 0 where
  pub long : p.off + length (run c (view laid s p.at)) ≡ q.off
  pub rest : past c (view laid s p.at) ≡ view laid s q.at
  pub onto : Onto laid s p q
