-- What the rooms hold once all of a record but its features is put.
use Rattle.std.specs.Prelude.{ℕ, ◌+◌, ◌*◌, ◌≡◌, List, ◌++◌, length}
use Rattle.std.proofs.Common.{arith, length-append}
use Rattle.std.proofs.lemmas.List.Edits.{sets}
use Rattle.spec_format.specs.Table.{Table}
use Rattle.spec_format.specs.Rooms.{perhaps, piece_text, contig_text, contig_rows, location_numbers, location_count, pieces_text, head_pieces, reference_pieces, comment_pieces, texts_of, rows_of, references_at, comments_at, features_at, contig_at}
use Rattle.base_pen.specs.Pen.{Wrote}
use Rattle.read_field_optional.specs.declared.MayEntry.{MayEntry}
use Rattle.read_contig.specs.Contigs.{ContigStands}

-- CONTIG's text stands where its entry says, with so many rows
pub record ContigReady (s : List ℕ) (contig : MayEntry) : Type 0 where
  pub rows : ℕ
  pub stands : ContigStands s contig rows

-- ---- what was put

abbrev pub header_text : Table → List ℕ
header_text t = pieces_text (head_pieces t) ++ texts_of reference_pieces t.references ++ texts_of comment_pieces t.comments

-- the features' texts come after it
pub header_long : (t : Table) → 0 + length (header_text t) ≡ features_at t
header_long t =
    let H : List ℕ = pieces_text (head_pieces t) in
    let R : List ℕ = texts_of reference_pieces t.references in
    let C : List ℕ = texts_of comment_pieces t.comments in
    omega (arith, length-append H R, length-append (H ++ R) C)

pub record HeaderFilled (t : Table) (t₀ t₁ r₀ r₁ c₀ c₁ : List ℕ) (next : ℕ) : Type 0 where
  pub texts : Wrote t₀ 0 (header_text t) t₁ next
  pub references : r₁ ≡ sets r₀ 0 (rows_of reference_pieces (references_at t) t.references)
  pub comments : c₁ ≡ sets c₀ 0 (rows_of comment_pieces (comments_at t) t.comments)

-- all but the features: between the header's texts and CONTIG's there is a gap for theirs, which starts at `place`; their location rows go before CONTIG's
pub record AroundFilled (t : Table) (t₀ t₁ r₀ r₁ c₀ c₁ n₀ n₁ l₀ l₁ : List ℕ) (place : ℕ) : Type 0 where
  pub gap : place ≡ features_at t
  pub texts : t₁ ≡ sets (sets t₀ 0 (header_text t)) (contig_at t) (piece_text (perhaps (contig_text t.contig)))
  pub references : r₁ ≡ sets r₀ 0 (rows_of reference_pieces (references_at t) t.references)
  pub comments : c₁ ≡ sets c₀ 0 (rows_of comment_pieces (comments_at t) t.comments)
  pub locations : n₁ ≡ sets n₀ (7 * location_count t.features) (location_numbers (contig_rows t.contig))
  pub letters : l₁ ≡ sets l₀ 0 t.letters
