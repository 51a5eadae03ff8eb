-- The rooms that hold a table's layout hold the table.
use Prim.Native.Nat.{ℕ, zero, suc, ◌+◌, ◌-◌, ◌*◌, ◌/◌, ◌≤◌, ◌<◌}
use Rattle.std.proofs.Common.{arith, ap, sym, ◌∙◌, length-append, le-leb}
use Rattle.std.specs.Prelude.{true, ◌≡◌, refl, length, take, drop, get_or}
use mathlib.Core.List.{List, [], ◌∷◌, ◌++◌, append_assoc}
use Rattle.spec_format.specs.Bytes.{each}
use Rattle.spec_format.specs.Table.{Reference, Qualifier, LocationRow, Feature, Table}
use Rattle.spec_format.specs.Rooms.{Rooms, Piece, perhaps, piece_text, pieces_text, pieces_row, head_pieces, reference_pieces, comment_pieces, feature_pieces, qualifier_pieces}
use Rattle.spec_format.specs.Rooms.{row_numbers, location_numbers, contig_text, contig_rows, texts_of, rows_of, feature_text, feature_rows, qualifier_rows, feature_locations, location_count}
use Rattle.spec_format.specs.Rooms.{references_at, comments_at, features_at, contig_at, layout}
use Rattle.spec_format.specs.Rooms.{location_row_in, locations_from, span_fine, over_rooms}
use Rattle.spec_rooms.specs.Held.{Held, held_left, held_right, held_head, held_within, held_number, held_at, held_first}
use Rattle.spec_rooms.specs.Rows.{AllGood, row_good, pieces_long, EachRow, rows_long, rows_good, numbers_long, numbers_held, rows_read_lem}

-- ---- location rows: seven numbers each

seven_wide : (l : LocationRow) → length (row_numbers l) ≡ 7
seven_wide l = refl

pub numbers_seven : (ls : List LocationRow) → length (location_numbers ls) ≡ 7 * length ls
unfolding location_numbers
numbers_seven ls = numbers_long row_numbers 7 seven_wide ls

-- those of features are as many as they count
pub locations_long : (fs : List Feature) → length (each feature_locations fs) ≡ 7 * location_count fs
unfolding location_count
locations_long [] = refl
locations_long (f ∷ fs) =
    rw (length-append (location_numbers f.rows) (each feature_locations fs), numbers_seven f.rows, locations_long fs) (omega arith)

location_back : (r : Rooms) (at : ℕ) (l : LocationRow) → Held r.locations at (row_numbers l) → location_row_in r at ≡ l
unfolding location_row_in
location_back r at l h =
    let R : List ℕ = r.locations in
    let n : List ℕ = row_numbers l in
    rw (
      held_head R at l.form _ h,
      held_number R at n h 1 (omega arith),
      held_number R at n h 2 (omega arith),
      held_number R at n h 3 (omega arith),
      held_number R at n h 4 (omega arith),
      held_number R at n h 5 (omega arith),
      held_number R at n h 6 (omega arith),
    )

-- these rows, read from row `row` of their room on, and inside it
pub record LocationsGood (r : Rooms) (row : ℕ) (ls : List LocationRow) : Type 0 where
  pub reads : locations_from r row (length ls) ≡ ls
  pub inside : span_fine (length r.locations / 7) row (length ls) ≡ true

locations_good : (r : Rooms) (row : ℕ) (ls : List LocationRow) → Held r.locations (7 * row) (location_numbers ls) → LocationsGood r row ls
unfolding location_numbers
locations_good r row ls h =
    let R : List ℕ = r.locations in
    let w : 7 * row + length (each row_numbers ls) ≤ length R = held_within R (7 * row) (each row_numbers ls) h in
    let n : length (each row_numbers ls) ≡ 7 * length ls = numbers_long row_numbers 7 seven_wide ls in
    record {
      reads = rows_read_lem (λ at x. Held R at (row_numbers x)) 7 (location_row_in r) (location_back r) row ls (numbers_held row_numbers 7 seven_wide R ls row h);
      inside = rw (le-leb row (length R / 7) (omega arith)) (le-leb (length ls) (length R / 7 - row) (omega arith));
    }

-- ---- what stands where in rooms that hold a table's layout

pub record Laid (t : Table) (r : Rooms) : Type 0 where
  pub head : Held r.texts 0 (pieces_text (head_pieces t))
  pub references : Held r.texts (references_at t) (texts_of reference_pieces t.references)
  pub comments : Held r.texts (comments_at t) (texts_of comment_pieces t.comments)
  pub features : Held r.texts (features_at t) (each feature_text t.features)
  pub contig : Held r.texts (contig_at t) (piece_text (perhaps (contig_text t.contig)))
  pub references_rows : Held r.references 0 (rows_of reference_pieces (references_at t) t.references)
  pub comments_rows : Held r.comments 0 (rows_of comment_pieces (comments_at t) t.comments)
  pub features_rows : Held r.features 0 (feature_rows (features_at t) 0 0 t.features)
  pub qualifiers_rows : Held r.qualifiers 0 (qualifier_rows (features_at t) t.features)
  pub locations_rows : Held r.locations 0 (each feature_locations t.features)
  pub contig_locations : Held r.locations (7 * location_count t.features) (location_numbers (contig_rows t.contig))
  pub letters : Held r.letters 0 t.letters

pub layout_laid : (t : Table) (r : Rooms) → Laid t (over_rooms (layout t) r)
unfolding layout
layout_laid t r =
    let H : List ℕ = pieces_text (head_pieces t) in
    let R : List ℕ = texts_of reference_pieces t.references in
    let C : List ℕ = texts_of comment_pieces t.comments in
    let F : List ℕ = each feature_text t.features in
    let G : List ℕ = piece_text (perhaps (contig_text t.contig)) in
    let L : List ℕ = each feature_locations t.features in
    let M : List ℕ = location_numbers (contig_rows t.contig) in
    let S : List ℕ = (over_rooms (layout t) r).texts in
    let whole : Held S 0 (H ++ R ++ C ++ F ++ G) = held_first (H ++ R ++ C ++ F ++ G) _ in
    let a : Held S 0 (H ++ R ++ C ++ F) = held_left S 0 (H ++ R ++ C ++ F) G whole in
    let b : Held S 0 (H ++ R ++ C) = held_left S 0 (H ++ R ++ C) F a in
    let c : Held S 0 (H ++ R) = held_left S 0 (H ++ R) C b in
    let e₁ : 0 + length H ≡ references_at t = omega arith in
    let e₂ : 0 + length (H ++ R) ≡ comments_at t = omega (arith, length-append H R) in
    let e₃ : 0 + length (H ++ R ++ C) ≡ features_at t = omega (arith, length-append H R, length-append (H ++ R) C) in
    let e₄ : 0 + length (H ++ R ++ C ++ F) ≡ contig_at t = omega (arith, length-append H R, length-append (H ++ R) C, length-append (H ++ R ++ C) F) in
    let rows = held_first (L ++ M) (drop (length (L ++ M)) r.locations) in
    let e₅ : 0 + length L ≡ 7 * location_count t.features = omega (arith, locations_long t.features) in
    record {
      head = held_left S 0 H R c;
      references = held_at S _ _ R e₁ (held_right S 0 H R c);
      comments = held_at S _ _ C e₂ (held_right S 0 (H ++ R) C b);
      features = held_at S _ _ F e₃ (held_right S 0 (H ++ R ++ C) F a);
      contig = held_at S _ _ G e₄ (held_right S 0 (H ++ R ++ C ++ F) G whole);
      references_rows = held_first (rows_of reference_pieces (references_at t) t.references) _;
      comments_rows = held_first (rows_of comment_pieces (comments_at t) t.comments) _;
      features_rows = held_first (feature_rows (features_at t) 0 0 t.features) _;
      qualifiers_rows = held_first (qualifier_rows (features_at t) t.features) _;
      locations_rows = held_left _ 0 L M rows;
      contig_locations = held_at _ _ _ M e₅ (held_right _ 0 L M rows);
      letters = held_first t.letters _;
    }

-- ---- the head's texts

pieces_part : (n : ℕ) (ps : List Piece) → pieces_text ps ≡ pieces_text (take n ps) ++ pieces_text (drop n ps)
unfolding pieces_text
pieces_part zero ps = refl
pieces_part (suc n) [] = refl
pieces_part (suc n) (p ∷ ps) =
    ap (λ l. piece_text p ++ l) (pieces_part n ps) ∙ sym (append_assoc (piece_text p) (pieces_text (take n ps)) (pieces_text (drop n ps)))

abbrev first_text : List Piece → List ℕ
first_text [] = []
first_text (p ∷ ps) = piece_text p

first_held : (S : List ℕ) (at : ℕ) (ps : List Piece) → Held S at (pieces_text ps) → Held S at (first_text ps)
unfolding pieces_text
first_held S at [] h = h
first_held S at (p ∷ ps) h = held_left S at (piece_text p) (pieces_text ps) h

pub piece_held : (S : List ℕ) (ps : List Piece) → Held S 0 (pieces_text ps) → (n : ℕ) → Held S (length (pieces_text (take n ps))) (first_text (drop n ps))
piece_held S ps h n =
    let e : 0 + length (pieces_text (take n ps)) ≡ length (pieces_text (take n ps)) = omega arith in
    first_held S _ (drop n ps)
    (held_at S _ _ (pieces_text (drop n ps)) e
    (held_right S 0 (pieces_text (take n ps)) (pieces_text (drop n ps)) (rw (pieces_part n ps) at h)))

-- ---- rows

-- the row of a feature at a place of its room, its qualifiers from row q and its location rows from row l on
pub record FeatureGood (r : Rooms) (at q l : ℕ) (f : Feature) : Type 0 where
  pub texts : AllGood r.texts r.features at 0 (feature_pieces f)
  pub first : get_or r.features (at + 4) 0 ≡ q
  pub count : get_or r.features (at + 5) 0 ≡ length f.qualifiers
  pub qualifiers : EachRow (λ at x. AllGood r.texts r.qualifiers at 0 (qualifier_pieces x)) 4 q f.qualifiers
  pub row : get_or r.features (at + 6) 0 ≡ l
  pub rows : get_or r.features (at + 7) 0 ≡ length f.rows
  pub locations : LocationsGood r l f.rows

abbrev pub FeaturesGood : Rooms → ℕ → ℕ → ℕ → List Feature → Type 0
FeaturesGood r i q l [] = Unit
FeaturesGood r i q l (f ∷ fs) = FeatureGood r (8 * i) q l f × FeaturesGood r (i + 1) (q + length f.qualifiers) (l + length f.rows) fs

pub four_wide : (x : Qualifier) (start : ℕ) → length (pieces_row start (qualifier_pieces x)) ≡ 4
four_wide x start = pieces_long start (qualifier_pieces x)

-- the four numbers after the texts of a feature's row
four_stand :
    (R : List ℕ) (at : ℕ) (P ns : List ℕ) → length P ≡ 4 → length ns ≡ 4 → Held R at (P ++ ns) → (k : ℕ) → k < 4 → get_or R (at + (4 + k)) 0 ≡ get_or ns k 0
four_stand R at P ns p n h k b =
    let e : at + (4 + k) ≡ at + length P + k = omega arith in
    rw e (held_number R (at + length P) ns (held_right R at P ns h) k (omega arith))

features_good :
    (r : Rooms) (fs : List Feature) (start q l i : ℕ) → Held r.texts start (each feature_text fs) → Held r.features (8 * i) (feature_rows start q l fs) →
    Held r.qualifiers (4 * q) (qualifier_rows start fs) → Held r.locations (7 * l) (each feature_locations fs) → FeaturesGood r i q l fs
unfolding feature_text feature_rows qualifier_rows
features_good r [] start q l i h k j m = tt
features_good r (f ∷ fs) start q l i h k j m =
    let T : List ℕ = pieces_text (feature_pieces f) in
    let N : List ℕ = texts_of qualifier_pieces f.qualifiers in
    let P : List ℕ = pieces_row start (feature_pieces f) in
    let n : ℕ = length f.qualifiers in
    let ns : List ℕ = q ∷ n ∷ l ∷ length f.rows ∷ [] in
    let K : List ℕ = feature_rows (start + length (T ++ N)) (q + n) (l + length f.rows) fs in
    let L : List ℕ = rows_of qualifier_pieces (start + length T) f.qualifiers in
    let M : List ℕ = qualifier_rows (start + length (T ++ N)) fs in
    let G : List ℕ = location_numbers f.rows in
    let O : List ℕ = each feature_locations fs in
    let own : Held r.texts start (T ++ N) = held_left r.texts start (T ++ N) (each feature_text fs) h in
    let row : Held r.features (8 * i) (P ++ ns) = held_left r.features (8 * i) (P ++ ns) K k in
    let p : length P ≡ 4 = pieces_long start (feature_pieces f) in
    let stand = four_stand r.features (8 * i) P ns p refl row in
    let e : 8 * i + length (P ++ ns) ≡ 8 * (i + 1) = omega (arith, length-append P ns) in
    let e' : 4 * q + length L ≡ 4 * (q + n) = omega (arith, rows_long qualifier_pieces 4 four_wide (start + length T) f.qualifiers) in
    let e'' : 7 * l + length G ≡ 7 * (l + length f.rows) = omega (arith, numbers_seven f.rows) in (
      record {
        texts = row_good r.texts r.features (8 * i) (feature_pieces f) start 0 (held_left r.texts start T N own)
            (held_left r.features (8 * i) P ns row);
        first = stand 0 (omega arith);
        count = stand 1 (omega arith);
        qualifiers = rows_good qualifier_pieces 4 four_wide r.texts r.qualifiers f.qualifiers (start + length T) q
            (held_right r.texts start T N own) (held_left r.qualifiers (4 * q) L M j);
        row = stand 2 (omega arith);
        rows = stand 3 (omega arith);
        locations = locations_good r l f.rows (held_left r.locations (7 * l) G O m);
      },
      features_good r fs (start + length (T ++ N)) (q + n) (l + length f.rows) (i + 1) (held_right r.texts start (T ++ N) (each feature_text fs) h)
          (held_at r.features _ _ K e (held_right r.features (8 * i) (P ++ ns) K k))
          (held_at r.qualifiers _ _ M e' (held_right r.qualifiers (4 * q) L M j))
          (held_at r.locations _ _ O e'' (held_right r.locations (7 * l) G O m)),
    )

-- ---- the table

pub fourteen_wide : (x : Reference) (start : ℕ) → length (pieces_row start (reference_pieces x)) ≡ 14
fourteen_wide x start = pieces_long start (reference_pieces x)

pub two_wide : (x : List ℕ) (start : ℕ) → length (pieces_row start (comment_pieces x)) ≡ 2
two_wide x start = pieces_long start (comment_pieces x)

module _ (t : Table) (r : Rooms) (l : Laid t r) where
  pub references_good : EachRow (λ at x. AllGood r.texts r.references at 0 (reference_pieces x)) 14 0 t.references
  references_good = rows_good reference_pieces 14 fourteen_wide r.texts r.references t.references (references_at t) 0 l.references l.references_rows

  pub comments_good : EachRow (λ at x. AllGood r.texts r.comments at 0 (comment_pieces x)) 2 0 t.comments
  comments_good = rows_good comment_pieces 2 two_wide r.texts r.comments t.comments (comments_at t) 0 l.comments l.comments_rows

  pub table_features_good : FeaturesGood r 0 0 0 t.features
  table_features_good = features_good r t.features (features_at t) 0 0 0 l.features l.features_rows l.qualifiers_rows l.locations_rows

  pub contig_good : LocationsGood r (location_count t.features) (contig_rows t.contig)
  contig_good = locations_good r (location_count t.features) (contig_rows t.contig) l.contig_locations
