-- A table that was laid out in rooms can be written from them: number 10 is not due.
use Rattle.std.specs.Prelude.{ℕ, ◌+◌, ◌-◌, ◌/◌, ◌≤◌, true, ◌≡◌, refl, List, [], ◌∷◌, length}
use Rattle.std.proofs.Common.{arith, leb-true}
use Rattle.spec_format.specs.Bytes.{May, absent, is, all}
use Rattle.spec_format.specs.Table.{Source, Reference, Feature, Contig, Table}
use Rattle.spec_format.specs.Rooms.{Rooms, perhaps, piece_text, organism_of, source_of, head_pieces, reference_pieces, comment_pieces, qualifier_count}
use Rattle.spec_format.specs.Rooms.{contig_text, contig_rows, location_count, contig_at, layout, sizes, start_of, text_at, source_at, contig_text_at, head_of, text_fine, source_fine}
use Rattle.spec_format.specs.Rooms.{feature_read, contig_read, locations_read, contig_text_fine, reference_row_fine, comment_row_fine}
use Rattle.spec_format.specs.Rooms.{features_fine, lengths_fine, head_fine, counts_fine, rooms_fine, fits, over_rooms}
use Rattle.spec_rooms.specs.Held.{Held, held_cut, held_fine}
use Rattle.spec_rooms.specs.Rows.{AllGood, rows_fine_lem}
use Rattle.spec_rooms.specs.LayoutBack.{LocationsGood, Laid, layout_laid, piece_held, FeaturesGood, references_good, comments_good, table_features_good, contig_good}
use Rattle.spec_rooms.specs.LayoutLengths.{and_left, and_right, Fitting, fitting, SameLengths}
use Rattle.spec_rooms.proofs.LayoutKept.{layout_keeps}
use Rattle.spec_rooms.proofs.FeatureFine.{location_fine_lem, feature_fine_lem}

-- ---- the head

may_fine : (S : List ℕ) (at : ℕ) (m : May (List ℕ)) → Held S at (piece_text (perhaps m)) → text_fine (length S) (text_at at m) ≡ true
may_fine S at absent h = refl
may_fine S at (is x) h = held_fine S at x h

source_fine_lem :
    (S : List ℕ) (at o : ℕ) (m : May Source) → Held S at (piece_text (perhaps (source_of m))) → Held S o (piece_text (perhaps (organism_of m))) →
    source_fine (length S) (source_at at o m) ≡ true
source_fine_lem S at o absent h k = refl
source_fine_lem S at o (is s) h k = rw (held_fine S at s.text h, may_fine S o s.organism k)

contig_fine_lem :
    (r : Rooms) (at row : ℕ) (m : May Contig) → Held r.texts at (piece_text (perhaps (contig_text m))) → LocationsGood r row (contig_rows m) →
    contig_read m ≡ true → contig_text_fine r (contig_text_at at row m) ≡ true
contig_fine_lem r at row absent h g e = refl
contig_fine_lem r at row (is c) h g e =
    rw (held_fine r.texts at c.text h, held_cut r.texts at c.text h) (location_fine_lem true r c.text row c.rows g e)

head_fine_lem : (t : Table) (r : Rooms) → Laid t r → contig_read t.contig ≡ true → head_fine r (head_of t) ≡ true
unfolding head_fine head_of
head_fine_lem t r l c =
    let S : List ℕ = r.texts in
    let p = piece_held S (head_pieces t) l.head in
    rw (
      may_fine S (start_of t 0) t.locus.name (p 0),
      may_fine S (start_of t 1) t.locus.molecule (p 1),
      held_fine S (start_of t 2) t.locus.division (p 2),
      may_fine S (start_of t 3) t.definition (p 3),
      may_fine S (start_of t 4) t.accession (p 4),
      may_fine S (start_of t 5) t.version (p 5),
      may_fine S (start_of t 6) t.dblink (p 6),
      may_fine S (start_of t 7) t.keywords (p 7),
      source_fine_lem S (start_of t 8) (start_of t 9) t.source (p 8) (p 9),
      contig_fine_lem r (contig_at t) (location_count t.features) t.contig l.contig (contig_good t r l) c,
    )

-- ---- rows

reference_fine_lem : (r : Rooms) (at : ℕ) (x : Reference) → AllGood r.texts r.references at 0 (reference_pieces x) → reference_row_fine r at ≡ true
unfolding reference_row_fine
reference_fine_lem r at x g =
    rw (
      g.0.inside,
      g.1.0.inside,
      g.1.1.0.inside,
      g.1.1.1.0.inside,
      g.1.1.1.1.0.inside,
      g.1.1.1.1.1.0.inside,
      g.1.1.1.1.1.1.0.inside,
    )

comment_fine : (r : Rooms) (at : ℕ) (x : List ℕ) → AllGood r.texts r.comments at 0 (comment_pieces x) → comment_row_fine r at ≡ true
unfolding comment_row_fine
comment_fine r at x g = g.0.inside

features_fine_lem :
    (r : Rooms) (fs : List Feature) (i from q l : ℕ) → FeaturesGood r i q l fs → all feature_read fs ≡ true → from ≤ q →
    q + qualifier_count fs ≤ length r.qualifiers / 4 → features_fine r i from (length fs) ≡ true
unfolding features_fine qualifier_count
features_fine_lem r [] i from q l g c h k = refl
features_fine_lem r (f ∷ fs) i from q l g c h k =
    feature_fine_lem r i from q l (length fs) f g.0 (and_left (feature_read f) (all feature_read fs) c) h (omega arith)
    (λ from' h'. features_fine_lem r fs (i + 1) from' (q + length f.qualifiers) (l + length f.rows) g.1 (and_right (feature_read f) (all feature_read fs) c) h'
    (omega arith))

-- ---- the rooms

lengths_fine_lem : (r r' : Rooms) → SameLengths r r' → lengths_fine r ≡ true → lengths_fine r' ≡ true
unfolding lengths_fine
lengths_fine_lem r r' s h = rw (s.texts, s.references, s.comments, s.features, s.qualifiers, s.locations, s.letters) h

counts_fine_lem : (t : Table) (r r' : Rooms) → SameLengths r r' → Fitting (sizes t) r → counts_fine r' (head_of t) ≡ true
unfolding counts_fine head_of sizes
counts_fine_lem t r r' s f = rw (s.references, s.comments, s.features, s.letters, f.references, f.comments, f.features, f.letters)

qualifiers_within : (t : Table) (r r' : Rooms) → SameLengths r r' → Fitting (sizes t) r → 0 + qualifier_count t.features ≤ length r'.qualifiers / 4
unfolding sizes
qualifiers_within t r r' s f = rw s.qualifiers (omega (arith, leb-true (qualifier_count t.features) (length r.qualifiers / 4) f.qualifiers))

laid_fine :
    (t : Table) (r r' : Rooms) → Laid t r' → SameLengths r r' → Fitting (sizes t) r → lengths_fine r ≡ true → locations_read t ≡ true →
    rooms_fine r' (head_of t) ≡ true
unfolding rooms_fine head_of locations_read
laid_fine t r r' l s f h c =
    rw (
      lengths_fine_lem r r' s h,
      head_fine_lem t r' l (and_right (all feature_read t.features) (contig_read t.contig) c),
      counts_fine_lem t r r' s f,
      rows_fine_lem (λ at x. AllGood r'.texts r'.references at 0 (reference_pieces x)) 14 (reference_row_fine r') (reference_fine_lem r') 0 t.references
          (references_good t r' l),
      rows_fine_lem (λ at x. AllGood r'.texts r'.comments at 0 (comment_pieces x)) 2 (comment_row_fine r') (comment_fine r') 0 t.comments
          (comments_good t r' l),
      features_fine_lem r' t.features 0 0 0 0 (table_features_good t r' l) (and_left (all feature_read t.features) (contig_read t.contig) c) (omega arith)
          (qualifiers_within t r r' s f),
    )

-- A TABLE WHOSE LOCATION ROWS ARE THOSE OF ITS TEXTS CAN BE WRITTEN, from the very rooms: where it fits rooms of no more than 16,777,216 rows or bytes,
-- number 10 is not due
pub layout_fine :
    (t : Table) (r : Rooms) → locations_read t ≡ true → fits (sizes t) r ≡ true → lengths_fine r ≡ true → rooms_fine (over_rooms (layout t) r) (head_of t) ≡ true
layout_fine t r c f h =
    laid_fine t r (over_rooms (layout t) r) (layout_laid t r) (layout_keeps t r f) (fitting (sizes t) r f) h c
