-- What the answers of the scanners of a location's parts say of its text: the code's answers as those of spec_format's Location.antt.
use Rattle.std.specs.Prelude.{ℕ, ◌+◌, ◌≤◌, ◌<◌, ◌≡◌, false, List, ◌∷◌}
use Rattle.spec_format.specs.Bytes.{starts, digit, number}
use Rattle.spec_format.specs.Table.{LocationRow}
use Rattle.spec_format.specs.Location.{Found, found, fault, and_then, run, past, Begin, word, other}
use Rattle.scan_location_bytes.specs.declared.Laid.{Laid}
use Rattle.scan_location_bytes.specs.declared.Spot.{Spot}
use Rattle.scan_location_bytes.specs.Views.{view, Past, Onto}
use Rattle.scan_location.specs.declared.Row.{Row}
use Rattle.scan_location.specs.declared.Digit.{Digit}
use Rattle.scan_location.specs.declared.Digit.TheVariants as digits
use Rattle.scan_location.specs.declared.Number.{Number}
use Rattle.scan_location.specs.declared.Number.TheVariants as numbers
use Rattle.scan_location.specs.declared.Begun.{Begun}
use Rattle.scan_location.specs.declared.Begun.TheVariants as begun
use Rattle.scan_location.specs.declared.Plain.{Plain}
use Rattle.scan_location.specs.declared.Plain.TheVariants as plains

-- ---- numbers

pub record AtDigit (laid : Laid) (s : List ℕ) (p : Spot) (v : ℕ) (q : Spot) : Type 0 where
  pub is : view laid s p.at ≡ (48 + v) ∷ view laid s q.at
  pub small : v ≤ 9
  pub past : Past laid s p q

abbrev pub DigitIs : Laid → List ℕ → Spot → Digit → Type 0
DigitIs laid s p (digits.Is v q) = AtDigit laid s p v q
DigitIs laid s p digits.None = starts digit (view laid s p.at) ≡ false

pub record Digited (laid : Laid) (s : List ℕ) (p : Spot) (r : Digit) : Type 0 where
  pub by : DigitIs laid s p r

pub record AtCounted (laid : Laid) (s : List ℕ) (p : Spot) (v₀ v : ℕ) (q : Spot) : Type 0 where
  pub is : number v₀ (run digit (view laid s p.at)) ≡ v
  pub small : v ≤ 4294967295
  pub rest : past digit (view laid s p.at) ≡ view laid s q.at
  pub onto : Onto laid s p q

abbrev pub CountedIs : Laid → List ℕ → Spot → ℕ → Number → Type 0
CountedIs laid s p v₀ (numbers.Of v q) = AtCounted laid s p v₀ v q
CountedIs laid s p v₀ numbers.Fault = 4294967295 < number v₀ (run digit (view laid s p.at))

-- the number that the digits from p on make of v₀, or that it is too large
pub record Counted (laid : Laid) (s : List ℕ) (p : Spot) (v₀ : ℕ) (r : Number) : Type 0 where
  pub by : CountedIs laid s p v₀ r

pub record AtNumber (laid : Laid) (s : List ℕ) (p : Spot) (o : Found ℕ) (v : ℕ) (q : Spot) : Type 0 where
  pub is : o ≡ found v (view laid s q.at)
  pub past : Past laid s p q

abbrev pub NumberIs : Laid → List ℕ → Spot → Found ℕ → Number → Type 0
NumberIs laid s p o (numbers.Of v q) = AtNumber laid s p o v q
NumberIs laid s p o numbers.Fault = o ≡ fault

-- o is what a base number is read as
pub record Numbered (laid : Laid) (s : List ℕ) (p : Spot) (o : Found ℕ) (r : Number) : Type 0 where
  pub by : NumberIs laid s p o r

-- ---- rows and words

abbrev pub row_of : Row → LocationRow
row_of r =
    record { form = r.form; marks = r.marks; from = r.from; to = r.to; start = r.start; length = r.length; inside = r.inside }

pub record AtPlain (laid : Laid) (s : List ℕ) (p : Spot) (o : Found LocationRow) (row : Row) (q : Spot) : Type 0 where
  pub is : o ≡ found (row_of row) (view laid s q.at)
  pub past : Past laid s p q

abbrev pub PlainIs : Laid → List ℕ → Spot → Found LocationRow → Plain → Type 0
PlainIs laid s p o (plains.Row row q) = AtPlain laid s p o row q
PlainIs laid s p o plains.Fault = o ≡ fault

-- o is what a location of one row is read as
pub record Plained (laid : Laid) (s : List ℕ) (p : Spot) (o : Found LocationRow) (r : Plain) : Type 0 where
  pub by : PlainIs laid s p o r

-- what follows, wherever what it follows began
pub record Follows (laid : Laid) (s : List ℕ) (q : Spot) (o : Found LocationRow) (r : Plain) : Type 0 where
  pub from : (p : Spot) → Past laid s p q → Plained laid s p o r

-- a row by its last number
abbrev pub last_of : (ℕ → LocationRow) → Found ℕ → Found LocationRow
last_of row o = and_then o λ m z. found (row m) z

pub record AtBegun (laid : Laid) (s : List ℕ) (p : Spot) (o : Begin) (form : ℕ) (q : Spot) : Type 0 where
  pub is : o ≡ word form (view laid s q.at)
  pub past : Past laid s p q

abbrev pub BegunIs : Laid → List ℕ → Spot → Begin → Begun → Type 0
BegunIs laid s p o (begun.Word form q) = AtBegun laid s p o form q
BegunIs laid s p o begun.Other = o ≡ other

-- o is how the location begins
pub record Begins (laid : Laid) (s : List ℕ) (p : Spot) (o : Begin) (r : Begun) : Type 0 where
  pub by : BegunIs laid s p o r
