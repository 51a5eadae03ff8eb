-- Each feature: its key from column 6, its location from column 22 over any number of lines. CONTIG has column 13.
use Rattle.std.specs.Prelude.{ℕ, ◌-◌, ◌≤◌, ◌<◌, true, ◌≡◌, refl, List, ◌++◌, length}
use Rattle.std.proofs.Common.{arith, length-append}
use Rattle.std.proofs.lemmas.List.{length-replicate}
use Rattle.spec_format.specs.Bytes.{is, bytes, each}
use Rattle.spec_format.specs.Table.{Feature, Contig}
use Rattle.spec_format.specs.Wrap.{wrap_location}
use Rattle.spec_format.specs.Write.{qualifier_lines, feature_lines, contig_lines}
use Rattle.spec_public.specs.Public.{entry_columns, feature_columns}
use Rattle.spec_columns.specs.Tests.{both, same_as}
use Rattle.spec_columns.specs.CommaLines.{BrokenLines}
use Rattle.spec_columns.proofs.CommaLines.{location_lines}
use Rattle.spec_columns.specs.FeatureLines.{kind_start, kind_columns}

-- ---- a feature

start_length : (k : List ℕ) → length k ≤ 15 → length (kind_start k) ≡ 21
start_length k h = simp (length-append, length-replicate) (omega arith)

-- a feature's lines begin with those of its location: the first has the key in columns 6 to 20 and the location from 22, where it goes on; the lines join to the
-- location and are broken at commas, or at the width where a line has none
pub feature_columns_lem :
    (W : ℕ) (f : Feature) → 21 < W → length f.kind ≤ 15 →
    (written : List ℕ) × (feature_lines W f ≡ written ++ each (qualifier_lines W) f.qualifiers) ×
    BrokenLines (feature_columns f.kind) 22 (W - 21) (W - 21) f.location written
unfolding feature_lines
feature_columns_lem W f h g =
    let k : List ℕ = f.kind in
    let e : length (kind_start k) ≡ 21 = start_length k g in (
      wrap_location W (kind_start k) 21 f.location,
      refl,
      rw e at (location_lines (feature_columns k) W 21 (kind_start k) f.location h (omega arith) (λ l. kind_columns k l g)),
    )

-- ---- CONTIG

contig_start : (l : List ℕ) → entry_columns 1 (bytes "CONTIG") l (bytes "CONTIG      " ++ l) ≡ true
contig_start l = both _ _ refl (both _ _ refl (both _ _ (same_as l l refl) refl))

-- CONTIG has its word at column 1, its text from column 13, where it goes on, broken like a location
pub contig_columns : (W : ℕ) (c : Contig) → 12 < W → BrokenLines (entry_columns 1 (bytes "CONTIG")) 13 (W - 12) (W - 12) c.text (contig_lines W (is c))
contig_columns W c h = location_lines (entry_columns 1 (bytes "CONTIG")) W 12 (bytes "CONTIG      ") c.text h h contig_start
