-- What was put into rooms: texts and rows, where the places after them are ones that a usize can hold.
use Rattle.std.specs.Prelude.{ℕ, ◌+◌, ◌≤◌, ◌<◌, ◌^◌, ◌≡◌, Bool, List, length, drop}
use Rattle.std.proofs.lemmas.List.Edits.{sets}
use Rattle.spec_format.specs.Bytes.{each}
use Rattle.spec_format.specs.Table.{Feature}
use Rattle.spec_format.specs.Readers.{got, fit_turn, end}
use Rattle.spec_format.specs.Features.{qualifier}
use Rattle.spec_format.specs.Record.{most}
use Rattle.spec_format.specs.Rooms.{qualifier_pieces, texts_of, rows_of, feature_text, feature_rows, qualifier_rows, feature_locations}
use Rattle.base_pen.specs.Pen.{Wrote}
use Rattle.read_feature_qualifiers.specs.Reads.{ValueStands}
use Rattle.read_feature_qualifiers.specs.Turns.{qualifiers_in}
use Rattle.read_feature_qualifiers.specs.declared.ValueAt.{ValueAt}
use Rattle.read_feature_qualifier_rows.specs.declared.Run.{Run}

-- ---- qualifiers

-- a scanned qualifier
pub record Standing (s : List ℕ) (indent first end : ℕ) (joined : Bool) (v : ValueAt) (next : ℕ) : Type 0 where
  pub value : ValueStands s joined indent v next
  pub key : first < end
  pub keyed : end ≤ length s

pub record WroteTwo (text numbers t₀ : List ℕ) (place : ℕ) (t₁ : List ℕ) (p : ℕ) (r₀ : List ℕ) (row : ℕ) (r₁ : List ℕ) (q : ℕ) : Type 0 where
  pub texts : Wrote t₀ place text t₁ p
  pub rows : Wrote r₀ row numbers r₁ q

pub record PutTwo (text numbers t₀ : List ℕ) (place : ℕ) (t₁ : List ℕ) (p : ℕ) (r₀ : List ℕ) (row : ℕ) (r₁ : List ℕ) (q : ℕ) : Type 0 where
  pub fit : place + length text < 2 ^ 64 → row + length numbers < 2 ^ 64 → WroteTwo text numbers t₀ place t₁ p r₀ row r₁ q

-- the qualifiers from `at` on
pub record QualifiersPut (s : List ℕ) (at indent : ℕ) (t₀ : List ℕ) (place : ℕ) (t₁ r₀ : List ℕ) (row : ℕ) (r₁ : List ℕ) (r : Run) : Type 0 where
  pub put :
      PutTwo (texts_of qualifier_pieces (qualifiers_in s indent at)) (rows_of qualifier_pieces place (qualifiers_in s indent at)) t₀ place t₁ r.text r₀ row r₁ r.row
  pub counted : r.count ≡ length (qualifiers_in s indent at)
  pub ended : (z : List ℕ) → end (fit_turn (qualifier indent)) (drop at s) ≡ got tt z → z ≡ drop r.next s
  pub few : r.count + at ≤ r.next
  pub within : r.next ≤ length s

-- ---- all features of a record, which others put one by one

-- the n features fs stand from `at` on, in a slice that may be read if there is one, and the places after their texts and their qualifiers' rows are ones that a usize can
-- hold
pub record Fits (s : List ℕ) (at n place : ℕ) (fs : List Feature) : Type 0 where
  pub within : at ≤ length s
  pub short : 0 < n → length s ≤ most
  pub counted : n ≡ length fs
  pub texts : place + length (each feature_text fs) < 2 ^ 64
  pub qualifiers : length (qualifier_rows place fs) < 2 ^ 64

pub record FeaturesPut (place : ℕ) (fs : List Feature) (t₀ t₁ f₀ f₁ q₀ q₁ l₀ l₁ : List ℕ) (r : ℕ) : Type 0 where
  pub texts : Wrote t₀ place (each feature_text fs) t₁ r
  pub features : f₁ ≡ sets f₀ 0 (feature_rows place 0 0 fs)
  pub qualifiers : q₁ ≡ sets q₀ 0 (qualifier_rows place fs)
  pub locations : l₁ ≡ sets l₀ 0 (each feature_locations fs)
