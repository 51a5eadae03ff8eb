-- The answers of the scan of a value as readers' answers, and its text, which goes by how it was read.
use Rattle.std.specs.Prelude.{ℕ, ◌+◌, ◌≡◌, refl, Bool, true, false, List, take, drop}
use Rattle.spec_format.specs.Bytes.{bytes, same}
use Rattle.spec_format.specs.Readers.{Ans, got, no, cut, or_else, utf8_of}
use Rattle.spec_format.specs.Features.{quoted, bare, value}
use Rattle.read_feature_joined.specs.Views.{Span}
use Rattle.read_feature_bare.specs.Bared.{bare_text}
use Rattle.read_feature_quoted.specs.Escapes.{quoted_text}
use Rattle.read_feature_value.specs.declared.Read.{Read}
use Rattle.read_feature_value.specs.declared.Read.TheVariants as read

-- `value`, by what the key says of it
unfoldable pub value_with : Bool → ℕ → List ℕ → Ans (List ℕ)
value_with joined indent s = or_else (utf8_of (quoted joined indent s)) (utf8_of (bare indent s))

pub value_with_lem : (indent : ℕ) (key s : List ℕ) → value indent key s ≡ value_with (same key (bytes "translation")) indent s
unfolding value value_with
value_with_lem indent key s = refl

abbrev pub read_text : Bool → Bool → ℕ → List ℕ → List ℕ
read_text true joined indent s = quoted_text joined indent s
read_text false joined indent s = bare_text indent s

abbrev pub read_of : List ℕ → ℕ → Bool → ℕ → Read → Ans (List ℕ)
read_of s at joined indent (read.Got quoted n next) = got (read_text quoted joined indent (drop at s)) (drop next s)
read_of s at joined indent read.No = no
read_of s at joined indent read.Cut = cut

-- a value that was read: where it stands; a quoted one that takes three bytes more than its text has its text in one piece behind the quote
pub record Placed (s : List ℕ) (at : ℕ) (joined : Bool) (indent : ℕ) (quoted : Bool) (n next : ℕ) : Type 0 where
  pub span : Span s at (read_text quoted joined indent (drop at s)) n next
  pub straight : quoted ≡ true → next ≡ at + n + 3 → read_text quoted joined indent (drop at s) ≡ take n (drop (at + 1) s)

abbrev pub PastRead : List ℕ → ℕ → Bool → ℕ → Read → Type 0
PastRead s at joined indent (read.Got quoted n next) = Placed s at joined indent quoted n next
PastRead s at joined indent read.No = Unit
PastRead s at joined indent read.Cut = Unit

pub record ReadIs (s : List ℕ) (at : ℕ) (joined : Bool) (indent : ℕ) (o : Ans (List ℕ)) (r : Read) : Type 0 where
  pub is : read_of s at joined indent r ≡ o
  pub place : PastRead s at joined indent r
