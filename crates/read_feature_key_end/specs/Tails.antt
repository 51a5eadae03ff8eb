-- The answer of the scan of what follows a key as a reader's answer.
use Rattle.std.specs.Prelude.{ℕ, ◌≤◌, ◌<◌, ◌≡◌, refl, Bool, List, [], ◌∷◌, length, drop}
use Rattle.spec_format.specs.Bytes.{May, absent, is, bytes, same}
use Rattle.spec_format.specs.Readers.{Ans, got, no, cut, bind, mapped, or_else, tag, line_end}
use Rattle.spec_format.specs.Features.{value, value_of}
use Rattle.read_feature_value.specs.Reads.{value_with, value_with_lem, read_text, Placed}
use Rattle.read_feature_key_end.specs.declared.Tail.{Tail}
use Rattle.read_feature_key_end.specs.declared.Tail.TheVariants as tail

unfoldable pub absent_of : List ℕ → Ans (May (List ℕ))
absent_of s = mapped (λ _. absent) (line_end s)

-- `value_of`, by what the key says of the value
unfoldable pub value_of_with : Bool → ℕ → List ℕ → Ans (May (List ℕ))
value_of_with joined indent s = or_else (bind (tag (bytes "=") s) λ _ s. mapped is (value_with joined indent s)) (absent_of s)

pub value_of_with_lem : (indent : ℕ) (key s : List ℕ) → value_of indent key s ≡ value_of_with (same key (bytes "translation")) indent s
unfolding value_of value_of_with absent_of
value_of_with_lem indent key s = go (tag (bytes "=") s)
  where
    go : (o : Ans Unit) → or_else (bind o λ _ s. mapped is (value indent key s)) (mapped (λ _. absent) (line_end s))
        ≡ or_else (bind o λ _ s. mapped is (value_with (same key (bytes "translation")) indent s)) (mapped (λ _. absent) (line_end s))
    go (got u r) = rw (value_with_lem indent key r)
    go no = refl
    go cut = refl

abbrev pub tail_of : List ℕ → Bool → ℕ → Tail → Ans (May (List ℕ))
tail_of s joined indent (tail.Absent next) = got absent (drop next s)
tail_of s joined indent (tail.With from quoted n next) = got (is (read_text quoted joined indent (drop from s))) (drop next s)
tail_of s joined indent tail.No = no
tail_of s joined indent tail.Cut = cut

abbrev pub PastTail : List ℕ → ℕ → Bool → ℕ → Tail → Type 0
PastTail s at joined indent (tail.Absent next) = (at < next) × (next ≤ length s)
PastTail s at joined indent (tail.With from quoted n next) = (at ≤ from) × Placed s from joined indent quoted n next
PastTail s at joined indent tail.No = Unit
PastTail s at joined indent tail.Cut = Unit

pub record TailIs (s : List ℕ) (at : ℕ) (joined : Bool) (indent : ℕ) (o : Ans (May (List ℕ))) (r : Tail) : Type 0 where
  pub is : tail_of s joined indent r ≡ o
  pub place : PastTail s at joined indent r
