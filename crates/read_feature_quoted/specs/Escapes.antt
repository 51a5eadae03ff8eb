-- Escapes and runs of a quoted value, the code's answers as readers', and the text of a quoted value as a function of the bytes alone.
use Rattle.std.specs.Prelude.{ℕ, ◌+◌, ◌≤◌, ◌<◌, ◌≡◌, Bool, true, false, List, [], ◌∷◌, ◌++◌, length, get_or, drop}
use Rattle.spec_format.specs.Bytes.{bytes, spaces, all}
use Rattle.spec_format.specs.Readers.{Ans, got, no, cut, bind, mapped, or_else, tag, line_end, Turn, more, stop, end}
use Rattle.spec_format.specs.Features.{escape, escaped, quoted_end, quoted_turn}
use Rattle.scan_bytes.specs.Places.{part}
use Rattle.scan_bytes.specs.Views.{step_of, PastOne}
use Rattle.scan_bytes.specs.declared.Step.{Step}
use Rattle.scan_bytes.specs.declared.Step.TheVariants as step
use Rattle.scan_utf8.specs.States.{ascii}
use Rattle.read_feature_joined.specs.Taken.{taken}
use Rattle.read_feature_quoted.specs.declared.Escape.{Escape}
use Rattle.read_feature_quoted.specs.declared.Escape.TheVariants as escape'
use Rattle.read_feature_quoted.specs.declared.Run.{Run}
use Rattle.read_feature_quoted.specs.declared.Piece.{Piece}
use Rattle.read_feature_quoted.specs.declared.Piece.TheVariants as piece
use Rattle.read_feature_quoted.specs.declared.Turn as turn'
use Rattle.read_feature_quoted.specs.declared.Turn.TheVariants as turn

-- a line's end and the indent
unfoldable pub feed : ℕ → List ℕ → Ans Unit
feed indent s = bind (line_end s) λ _ s. tag (spaces indent) s

-- a line's end, the indent and a quote
unfoldable pub second_quote : ℕ → List ℕ → Ans Unit
second_quote indent s = bind (feed indent s) λ _ s. tag (34 ∷ []) s

-- two quotes that a line's end parts
unfoldable pub split_quote : ℕ → List ℕ → Ans Unit
split_quote indent s = bind (tag (34 ∷ []) s) λ _ s. second_quote indent s

-- the escapes but two quotes side by side
unfoldable pub later_escape : ℕ → List ℕ → Ans ℕ
later_escape indent s = or_else (mapped (λ _. 34) (split_quote indent s)) (mapped (λ _. 10) (feed indent s))

-- from a quote on
pub record QuoteSpan (s : List ℕ) (at n : ℕ) : Type 0 where
  pub from : at < n
  pub within : n ≤ length s
  pub byte : get_or s at 0 ≡ 34

abbrev pub PastQuote : List ℕ → ℕ → Step → Type 0
PastQuote s at (step.Got n) = QuoteSpan s at n
PastQuote s at step.No = Unit
PastQuote s at step.Cut = Unit

pub record QuoteStep (s : List ℕ) (at : ℕ) (o : Ans Unit) (r : Step) : Type 0 where
  pub is : step_of s r ≡ o
  pub place : PastQuote s at r

-- a step of one byte at least
pub record StepOne (s : List ℕ) (at : ℕ) (o : Ans Unit) (r : Step) : Type 0 where
  pub is : step_of s r ≡ o
  pub place : PastOne s at r

abbrev pub escape_of : List ℕ → Escape → Ans ℕ
escape_of s (escape'.Quote n) = got 34 (drop n s)
escape_of s (escape'.Feed n) = got 10 (drop n s)
escape_of s escape'.No = no
escape_of s escape'.Cut = cut

abbrev pub PastEscape : List ℕ → ℕ → Escape → Type 0
PastEscape s at (escape'.Quote n) = QuoteSpan s at n
PastEscape s at (escape'.Feed n) = (at < n) × (n ≤ length s)
PastEscape s at escape'.No = Unit
PastEscape s at escape'.Cut = Unit

pub record Escaped (s : List ℕ) (at : ℕ) (o : Ans ℕ) (r : Escape) : Type 0 where
  pub is : escape_of s r ≡ o
  pub place : PastEscape s at r

-- the bytes from `at` up to e stand for themselves
pub record Runs (s : List ℕ) (at e : ℕ) : Type 0 where
  pub from : at ≤ e
  pub within : e ≤ length s
  pub text : (joined : Bool) (indent : ℕ) → taken (quoted_turn joined indent) (drop at s) ≡ part at e s ++ taken (quoted_turn joined indent) (drop e s)
  pub ends : (joined : Bool) (indent : ℕ) → end (quoted_turn joined indent) (drop at s) ≡ end (quoted_turn joined indent) (drop e s)

-- r holds only where the bytes from `at` up to e are ASCII
pub record Known (s : List ℕ) (at e : ℕ) (r : Bool) : Type 0 where
  pub is : r ≡ true → all ascii (part at e s) ≡ true

-- a run that is ASCII
pub record AsciiRuns (s : List ℕ) (at e : ℕ) : Type 0 where
  pub runs : Runs s at e
  pub known : all ascii (part at e s) ≡ true

-- r holds only where the n bytes from i on carry on such a run
pub record Onward (s : List ℕ) (i n : ℕ) (r : Bool) : Type 0 where
  pub go : r ≡ true → (at : ℕ) → AsciiRuns s at i → AsciiRuns s at (i + n)

-- the bytes from `at` up to e stand for themselves, and the one at e does not
pub record Plain (s : List ℕ) (at e : ℕ) : Type 0 where
  pub runs : Runs s at e
  pub turn : (joined : Bool) (indent : ℕ) → quoted_turn joined indent (drop e s) ≡ quoted_end joined (drop e s) (escape indent (drop e s))

pub record PlainRun (s : List ℕ) (at : ℕ) (r : Run) : Type 0 where
  pub plain : Plain s at r.end
  pub known : Known s at r.end r.ascii

abbrev pub turn_of : List ℕ → Bool → turn'.Turn → Ans (Turn (List ℕ))
turn_of s joined (turn.Quote n) = got (more (34 ∷ [])) (drop n s)
turn_of s joined (turn.Feed n) = got (more (escaped joined 10)) (drop n s)
turn_of s joined (turn.Stop n) = got stop (drop n s)
turn_of s joined turn.No = no
turn_of s joined turn.Cut = cut

abbrev pub PastTurn : List ℕ → ℕ → turn'.Turn → Type 0
PastTurn s at (turn.Quote n) = QuoteSpan s at n
PastTurn s at (turn.Feed n) = (at < n) × (n ≤ length s)
PastTurn s at (turn.Stop n) = (at < n) × (n ≤ length s)
PastTurn s at turn.No = Unit
PastTurn s at turn.Cut = Unit

-- the closing quote and the line's end
unfoldable pub closing : List ℕ → Ans (Turn (List ℕ))
closing s = bind (tag (bytes "\"") s) λ _ r. mapped (λ _. stop) (line_end r)

pub record Closed (s : List ℕ) (at : ℕ) (r : turn'.Turn) : Type 0 where
  pub is : (joined : Bool) → turn_of s joined r ≡ closing (drop at s)
  pub place : PastTurn s at r

-- what stands where a run of ordinary bytes ends
pub record Turned (s : List ℕ) (at indent : ℕ) (r : turn'.Turn) : Type 0 where
  pub is : (joined : Bool) → turn_of s joined r ≡ quoted_end joined (drop at s) (escape indent (drop at s))
  pub place : PastTurn s at r

abbrev pub feed_text : Bool → List ℕ
feed_text true = 10 ∷ []
feed_text false = []

-- from `at` on the bytes up to `to` are text, and a LF after them where `feed` says so; the value goes on at `next`
pub record GoesOn (s : List ℕ) (at : ℕ) (joined : Bool) (indent to : ℕ) (feed : Bool) (next : ℕ) (low : Bool) : Type 0 where
  pub from : at ≤ to
  pub within : to ≤ length s
  pub after : at < next
  pub below : next ≤ length s
  pub short : to + length (feed_text feed) ≤ next
  pub known : Known s at to low
  pub text : taken (quoted_turn joined indent) (drop at s) ≡ part at to s ++ (feed_text feed ++ taken (quoted_turn joined indent) (drop next s))
  pub ends : end (quoted_turn joined indent) (drop at s) ≡ end (quoted_turn joined indent) (drop next s)

-- the bytes up to `to` are the last of the text, and the loop ends with o
pub record GoesOff (s : List ℕ) (at : ℕ) (joined : Bool) (indent to : ℕ) (o : Ans Unit) : Type 0 where
  pub from : at ≤ to
  pub within : to ≤ length s
  pub text : taken (quoted_turn joined indent) (drop at s) ≡ part at to s
  pub ends : end (quoted_turn joined indent) (drop at s) ≡ o

abbrev pub PieceIs : List ℕ → ℕ → Bool → ℕ → Piece → Type 0
PieceIs s at joined indent (piece.On to feed next low) = GoesOn s at joined indent to feed next low
PieceIs s at joined indent (piece.Stop to next low) = GoesOff s at joined indent to (got tt (drop next s)) × (to < next) × (next ≤ length s) × Known s at to low
PieceIs s at joined indent (piece.No to) = GoesOff s at joined indent to no
PieceIs s at joined indent (piece.Cut to) = GoesOff s at joined indent to cut

pub record Pieced (s : List ℕ) (at : ℕ) (joined : Bool) (indent : ℕ) (r : Piece) : Type 0 where
  pub is : PieceIs s at joined indent r

abbrev pub quoted_from : Bool → ℕ → Ans Unit → List ℕ
quoted_from joined indent (got u r) = taken (quoted_turn joined indent) r
quoted_from joined indent no = []
quoted_from joined indent cut = []

-- what `quoted` gives, where it gives a text
unfoldable pub quoted_text : Bool → ℕ → List ℕ → List ℕ
quoted_text joined indent s = quoted_from joined indent (tag (bytes "\"") s)
