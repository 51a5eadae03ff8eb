-- What a made row is: its numbers are those that the feature has in flat rooms, and the feature's texts, its qualifiers' and its location's rows are put.
use Rattle.std.specs.Prelude.{ℕ, ◌+◌, ◌*◌, ◌≤◌, ◌<◌, ◌^◌, ◌≡◌, Bool, true, List, [], ◌∷◌, ◌++◌, length, drop}
use Rattle.std.proofs.lemmas.List.Edits.{sets}
use Rattle.spec_format.specs.Table.{Feature}
use Rattle.spec_format.specs.Readers.{Ans, got, no, cut}
use Rattle.spec_format.specs.Record.{most}
use Rattle.spec_format.specs.Rooms.{pieces_text, pieces_row, feature_pieces, qualifier_pieces, rows_of, feature_text, feature_locations}
use Rattle.scan_bytes.specs.Places.{part}
use Rattle.base_pen.specs.Pen.{Wrote}
use Rattle.base_rows.specs.Rows.{numbers}
use Rattle.read_feature_bare.specs.Bared.{bare_text}
use Rattle.read_feature_row.specs.declared.Reached.{Reached}
use Rattle.read_feature_row.specs.declared.Made.{Made}

-- a feature may be asked for
pub record Ahead (s : List ℕ) (p : Reached) : Type 0 where
  pub few : p.count ≤ p.at
  pub rowed : p.location ≤ p.at
  pub within : p.at ≤ length s
  pub short : length s ≤ most
  pub next : p.row + 1 < 2 ^ 64

-- a bare text of `long` bytes from `at` on, of which `line` is said only where it stands in one line
pub record LineTold (s : List ℕ) (at indent long : ℕ) (line : Bool) : Type 0 where
  pub within : at + long ≤ length s
  pub single : line ≡ true → bare_text indent (drop at s) ≡ part at (at + long) s

-- where none starts
abbrev pub no_row : Reached → Made
no_row p =
    record {
      row = record { kind = record { start = 0; length = 0 }; location = record { start = 0; length = 0 }; first = 0; count = 0; row = 0; rows = 0 };
      reached = record { at = p.at; text = p.text; row = p.row + 1; qualifier = p.qualifier; count = p.count; location = p.location };
    }

-- a feature's row, and the rows of its qualifiers, as they are in flat rooms
abbrev pub row_of : ℕ → ℕ → ℕ → Feature → List ℕ
row_of at q l f = pieces_row at (feature_pieces f) ++ q ∷ length f.qualifiers ∷ l ∷ length f.rows ∷ []

abbrev pub under_of : ℕ → Feature → List ℕ
under_of at f = rows_of qualifier_pieces (at + length (pieces_text (feature_pieces f))) f.qualifiers

pub record FeatureWrote (p : Reached) (f : Feature) (t₀ t₁ q₀ q₁ : List ℕ) (r : Made) : Type 0 where
  pub texts : Wrote t₀ p.text (feature_text f) t₁ r.reached.text
  pub row : numbers r.row ≡ row_of p.text p.count p.location f
  pub qualifiers : Wrote q₀ p.qualifier (under_of p.text f) q₁ r.reached.qualifier

-- the feature f was put, where the places after it are ones that a usize can hold, and z is left to be read
pub record FeatureMade (s : List ℕ) (p : Reached) (f : Feature) (z t₀ t₁ q₀ q₁ : List ℕ) (r : Made) : Type 0 where
  pub fit :
      p.text + length (feature_text f) < 2 ^ 64 → p.qualifier + length (under_of p.text f) < 2 ^ 64 → FeatureWrote p f t₀ t₁ q₀ q₁ r
  pub counted : r.reached.count ≡ p.count + length f.qualifiers
  pub located : r.reached.location ≡ p.location + length f.rows
  pub ended : z ≡ drop r.reached.at s

abbrev pub RowThen : List ℕ → Reached → Ans Feature → List ℕ → List ℕ → List ℕ → List ℕ → Made → Type 0
RowThen s p (got f z) t₀ t₁ q₀ q₁ r = FeatureMade s p f z t₀ t₁ q₀ q₁ r
RowThen s p no t₀ t₁ q₀ q₁ r = Unit
RowThen s p cut t₀ t₁ q₀ q₁ r = Unit

pub record RowMade (s : List ℕ) (p : Reached) (o : Ans Feature) (t₀ t₁ q₀ q₁ : List ℕ) (r : Made) : Type 0 where
  pub there : RowThen s p o t₀ t₁ q₀ q₁ r
  pub next : r.reached.row ≡ p.row + 1
  pub few : r.reached.count ≤ r.reached.at
  pub rowed : r.reached.location ≤ r.reached.at
  pub within : r.reached.at ≤ length s

-- the rows of a feature's location, put behind those of the features before it
abbrev pub LocationsThen : Reached → Ans Feature → List ℕ → List ℕ → Type 0
LocationsThen p (got f z) l₀ l₁ = l₁ ≡ sets l₀ (7 * p.location) (feature_locations f)
LocationsThen p no l₀ l₁ = Unit
LocationsThen p cut l₀ l₁ = Unit

pub record FeaturePut (s : List ℕ) (p : Reached) (o : Ans Feature) (t₀ t₁ q₀ q₁ l₀ l₁ : List ℕ) (r : Made) : Type 0 where
  pub made : RowMade s p o t₀ t₁ q₀ q₁ r
  pub locations : LocationsThen p o l₀ l₁
