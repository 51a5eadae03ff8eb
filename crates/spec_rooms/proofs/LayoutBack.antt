-- The table in the rooms is the table that was laid out there, whatever they held before.
use Prim.Native.Nat.{ℕ, ◌+◌, ◌*◌}
use Rattle.std.proofs.Common.{ap}
use Rattle.std.specs.Prelude.{◌≡◌, refl, length, take}
use mathlib.Core.List.{List, [], ◌∷◌}
use Rattle.spec_format.specs.Bytes.{May, absent, is}
use Rattle.spec_format.specs.Table.{Source, Reference, Qualifier, Feature, Contig, Table}
use Rattle.spec_format.specs.Rooms.{Rooms, perhaps, piece_text, organism_of, source_of, head_pieces, reference_pieces, comment_pieces, qualifier_pieces}
use Rattle.spec_format.specs.Rooms.{contig_text, contig_rows, location_count}
use Rattle.spec_format.specs.Rooms.{contig_at, layout, start_of, text_at, source_at, contig_text_at, length_of, head_of, may_text, may_source, may_length}
use Rattle.spec_format.specs.Rooms.{rows_from, may_contig, reference_in, comment_in, qualifier_in, feature_in, table_of, over_rooms}
use Rattle.spec_rooms.specs.Held.{Held, held_cut}
use Rattle.spec_rooms.specs.Rows.{AllGood, rows_read_lem}
use Rattle.spec_rooms.specs.LayoutBack.{LocationsGood, Laid, layout_laid, piece_held, FeatureGood, FeaturesGood, references_good, comments_good, table_features_good, contig_good}

-- ---- the head's texts

may_back : (S : List ℕ) (at : ℕ) (m : May (List ℕ)) → Held S at (piece_text (perhaps m)) → may_text S (text_at at m) ≡ m
may_back S at absent h = refl
may_back S at (is x) h = ap is (held_cut S at x h)

source_back :
    (S : List ℕ) (at o : ℕ) (m : May Source) → Held S at (piece_text (perhaps (source_of m))) → Held S o (piece_text (perhaps (organism_of m))) →
    may_source S (source_at at o m) ≡ m
source_back S at o absent h k = refl
source_back S at o (is s) h k = rw (held_cut S at s.text h, may_back S o s.organism k)

contig_back :
    (r : Rooms) (at row : ℕ) (m : May Contig) → Held r.texts at (piece_text (perhaps (contig_text m))) → LocationsGood r row (contig_rows m) →
    may_contig r (contig_text_at at row m) ≡ m
contig_back r at row absent h g = refl
contig_back r at row (is c) h g = rw (held_cut r.texts at c.text h, g.reads)

length_back : (m : May ℕ) → may_length (length_of m) ≡ m
length_back absent = refl
length_back (is n) = refl

-- ---- rows

reference_back : (r : Rooms) (at : ℕ) (x : Reference) → AllGood r.texts r.references at 0 (reference_pieces x) → reference_in r at ≡ x
unfolding reference_in
reference_back r at x g =
    rw (
      g.0.reads,
      g.1.0.reads,
      g.1.1.0.reads,
      g.1.1.1.0.reads,
      g.1.1.1.1.0.reads,
      g.1.1.1.1.1.0.reads,
      g.1.1.1.1.1.1.0.reads,
    )

comment_back : (r : Rooms) (at : ℕ) (x : List ℕ) → AllGood r.texts r.comments at 0 (comment_pieces x) → comment_in r at ≡ x
unfolding comment_in
comment_back r at x g = g.0.reads

qualifier_back : (r : Rooms) (at : ℕ) (x : Qualifier) → AllGood r.texts r.qualifiers at 0 (qualifier_pieces x) → qualifier_in r at ≡ x
unfolding qualifier_in
qualifier_back r at x g = rw (g.0.reads, g.1.0.reads)

feature_back : (r : Rooms) (at q l : ℕ) (f : Feature) → FeatureGood r at q l f → feature_in r at ≡ f
unfolding feature_in
feature_back r at q l f g =
    rw (
      g.texts.0.reads,
      g.texts.1.0.reads,
      g.first,
      g.count,
      rows_read_lem (λ at x. AllGood r.texts r.qualifiers at 0 (qualifier_pieces x)) 4 (qualifier_in r) (qualifier_back r) q f.qualifiers g.qualifiers,
      g.row,
      g.rows,
      g.locations.reads,
    )

features_back : (r : Rooms) (fs : List Feature) (q l i : ℕ) → FeaturesGood r i q l fs → rows_from (feature_in r) 8 i (length fs) ≡ fs
unfolding rows_from
features_back r [] q l i g = refl
features_back r (f ∷ fs) q l i g =
    rw (feature_back r (8 * i) q l f g.0, features_back r fs (q + length f.qualifiers) (l + length f.rows) (i + 1) g.1)

-- ---- the table

module _ (t : Table) (r : Rooms) (l : Laid t r) where
  references_back : rows_from (reference_in r) 14 0 (length t.references) ≡ t.references
  references_back = rows_read_lem (λ at x. AllGood r.texts r.references at 0 (reference_pieces x)) 14 (reference_in r) (reference_back r) 0 t.references (references_good t r l)

  comments_back : rows_from (comment_in r) 2 0 (length t.comments) ≡ t.comments
  comments_back = rows_read_lem (λ at x. AllGood r.texts r.comments at 0 (comment_pieces x)) 2 (comment_in r) (comment_back r) 0 t.comments (comments_good t r l)

  letters_back : take (length t.letters) r.letters ≡ t.letters
  letters_back = held_cut r.letters 0 t.letters l.letters

  laid_back : table_of r (head_of t) ≡ t
  unfolding table_of head_of
  laid_back =
      let S : List ℕ = r.texts in
      let p = piece_held S (head_pieces t) l.head in
      rw (
        may_back S (start_of t 0) t.locus.name (p 0),
        length_back t.locus.length,
        may_back S (start_of t 1) t.locus.molecule (p 1),
        held_cut S (start_of t 2) t.locus.division (p 2),
        may_back S (start_of t 3) t.definition (p 3),
        may_back S (start_of t 4) t.accession (p 4),
        may_back S (start_of t 5) t.version (p 5),
        may_back S (start_of t 6) t.dblink (p 6),
        may_back S (start_of t 7) t.keywords (p 7),
        source_back S (start_of t 8) (start_of t 9) t.source (p 8) (p 9),
        references_back,
        comments_back,
        features_back r t.features 0 0 0 (table_features_good t r l),
        contig_back r (contig_at t) (location_count t.features) t.contig l.contig (contig_good t r l),
        letters_back,
      )

-- WHAT A TABLE LEAVES IN ROOMS IS READ THERE AS THAT TABLE, whatever the rooms held before
pub layout_back : (t : Table) (r : Rooms) → table_of (over_rooms (layout t) r) (head_of t) ≡ t
layout_back t r = laid_back t (over_rooms (layout t) r) (layout_laid t r)
