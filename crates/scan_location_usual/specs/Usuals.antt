-- What is known of a usual location: its reading, by the definitions of spec_format's Location.antt. Of any other text nothing is said.
use Rattle.std.specs.Prelude.{ℕ, ◌+◌, ◌≤◌, ◌<◌, ◌≡◌, Bool, false, List, [], ◌∷◌, length, drop}
use Rattle.spec_format.specs.Bytes.{bytes, starts, digit, number}
use Rattle.spec_format.specs.Table.{LocationRow}
use Rattle.spec_format.specs.Readers.{got, tag}
use Rattle.spec_format.specs.Location.{found, run, past, base_number, leaf_row, plain, begin, other, word_row, reading, one}
use Rattle.scan_location_bytes.specs.declared.Laid.{Laid}
use Rattle.scan_location_bytes.specs.declared.Spot.{Spot}
use Rattle.scan_location_bytes.specs.Views.{view, Past}
use Rattle.scan_location_usual.specs.declared.Run.{Run}
use Rattle.scan_location_usual.specs.declared.Range.{Range}
use Rattle.scan_location_usual.specs.declared.Range.TheVariants as ranges
use Rattle.scan_location_usual.specs.declared.Ranged.{Ranged}
use Rattle.scan_location_usual.specs.declared.Ranged.TheVariants as rangeds
use Rattle.scan_location_usual.specs.declared.Usual.{Usual}
use Rattle.scan_location_usual.specs.declared.Usual.TheVariants as usuals

-- the row of n..m
abbrev pub range_row : ℕ → ℕ → LocationRow
range_row n m = leaf_row 0 0 2 0 n m

-- ---- numbers, however the text lies

-- the text from `at` on is that from `next` on, and as many bytes as lie between them
pub record Onward (s : List ℕ) (at next : ℕ) : Type 0 where
  pub long : (laid : Laid) → length (view laid s at) + at ≡ length (view laid s next) + next
  pub from : at ≤ next
  pub within : next ≤ length s

-- the number that the digits from `at` on make of v is the one that those from r on make of its value
pub record DigitsTo (s : List ℕ) (at v : ℕ) (r : Run) : Type 0 where
  pub is : (laid : Laid) → number v (run digit (view laid s at)) ≡ number r.value (run digit (view laid s r.next))
  pub rest : (laid : Laid) → past digit (view laid s at) ≡ past digit (view laid s r.next)
  pub small : r.value ≤ 4294967295
  pub on : Onward s at r.next

-- a base number stands at `at`, if the value is not 0 and no digit follows
pub record NumberTo (s : List ℕ) (at : ℕ) (r : Run) : Type 0 where
  pub is : (laid : Laid) → (r.value ≡ 0 → ⊥) → starts digit (view laid s r.next) ≡ false → base_number (view laid s at) ≡ found r.value (view laid s r.next)
  pub on : Onward s at r.next

-- ---- ranges

-- the text t is the range n..m, and then z
pub record RangeThen (t : List ℕ) (n m : ℕ) (z : List ℕ) : Type 0 where
  pub plain : (gaps : Bool) (k : ℕ) → plain gaps k t ≡ found (range_row n m) z
  pub begins : begin t ≡ other

pub record AtRange (s : List ℕ) (at n m next : ℕ) : Type 0 where
  pub is : (laid : Laid) → starts digit (view laid s next) ≡ false → RangeThen (view laid s at) n m (view laid s next)
  pub on : Onward s at next
  pub up : at < next

abbrev pub RangeIs : List ℕ → ℕ → Range → Type 0
RangeIs s at (ranges.Is n m next) = AtRange s at n m next
RangeIs s at ranges.Other = Unit

pub record RangeTo (s : List ℕ) (at : ℕ) (r : Range) : Type 0 where
  pub by : RangeIs s at r

-- the range n..m stands from spot p up to q
pub record AtRanged (laid : Laid) (s : List ℕ) (p : Spot) (n m : ℕ) (q : Spot) : Type 0 where
  pub is : RangeThen (view laid s p.at) n m (view laid s q.at)
  pub past : Past laid s p q

abbrev pub RangedIs : Laid → List ℕ → Spot → Ranged → Type 0
RangedIs laid s p (rangeds.Is n m q) = AtRanged laid s p n m q
RangedIs laid s p rangeds.Other = Unit

pub record RangedAt (laid : Laid) (s : List ℕ) (p : Spot) (r : Ranged) : Type 0 where
  pub by : RangedIs laid s p r

-- ---- a whole text

-- it begins with the word and its bracket, and goes on at `at`
pub record Opened (s : List ℕ) (at : ℕ) : Type 0 where
  pub is : tag (bytes "complement(") s ≡ got tt (drop at s)
  pub within : at ≤ length s

abbrev pub KnownAs : List ℕ → Usual → Type 0
KnownAs t (usuals.Range n m) = (gaps : Bool) → reading gaps t ≡ one (range_row n m ∷ [])
KnownAs t (usuals.Complement n m) = (gaps : Bool) → reading gaps t ≡ one (range_row n m ∷ word_row 4 1 ∷ [])
KnownAs t usuals.Other = Unit

pub record Known (t : List ℕ) (r : Usual) : Type 0 where
  pub by : KnownAs t r
