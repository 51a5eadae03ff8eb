-- Location rows are those of their texts: where number 10 is not due, and what that says of a text which has a reading.
use Prim.Native.Nat.{ℕ, zero, suc, ◌+◌, ◌*◌, ◌/◌}
use Rattle.std.proofs.Common.{arith, ap, sym, eqb-true, eq-eqb, Option, Some, None}
use Rattle.std.specs.Prelude.{Bool, ◌||◌, ◌≡◌, List, [], ◌∷◌, length, drop, get_or}
use Rattle.std.proofs.Math.Bool.{true, false}
use Rattle.std.proofs.Math.Path.{refl}
use Rattle.std.proofs.Math.Dec.{eqb}
use Rattle.spec_format.specs.Impossible.{impossible}
use Rattle.spec_format.specs.Bytes.{same, all}
use Rattle.spec_format.specs.Table.{LocationRow}
use Rattle.spec_format.specs.Location.{Reading, one, none, too_deep, reading, is_one, rows_one, locates, rows_in}
use Rattle.spec_format.specs.Rooms.{Rooms, location_numbers, span_text, text_in, rows_from, locations_from, may_contig, feature_in, table_of, span_fine}
use Rattle.spec_format.specs.Rooms.{text_fine, source_fine, row_text_fine, read_as, feature_read, contig_read, locations_read, location_fine, contig_text_fine}
use Rattle.spec_format.specs.Rooms.{rows_fine, reference_row_fine, comment_row_fine, qualifiers_fine, feature_row_fine, features_fine, lengths_fine, head_fine}
use Rattle.spec_format.specs.Rooms.{counts_fine, rooms_fine}
use Rattle.spec_format.specs.declared.ContigText.{ContigText}
use Rattle.spec_format.specs.declared.Head.{Head}
use Rattle.spec_rooms.specs.LayoutLengths.{and_left, and_right}

-- ---- rows whose numbers are the same are the same

same_self : (a : List ℕ) → same a a ≡ true
same_self [] = refl
same_self (n ∷ a) = rw (eq-eqb n n refl) (same_self a)

same_is : (a b : List ℕ) → same a b ≡ true → a ≡ b
same_is [] [] h = refl
same_is [] (m ∷ b) h = impossible cc
same_is (n ∷ a) [] h = impossible cc
same_is (n ∷ a) (m ∷ b) h =
    rw (eqb-true n m (and_left (eqb n m) (same a b) h), same_is a b (and_right (eqb n m) (same a b) h))

abbrev row_with : ℕ → ℕ → ℕ → ℕ → ℕ → ℕ → ℕ → LocationRow
row_with a b c d e f g = record { form = a; marks = b; from = c; to = d; start = e; length = f; inside = g }

abbrev first_row : List ℕ → LocationRow
first_row ns = row_with (get_or ns 0 0) (get_or ns 1 0) (get_or ns 2 0) (get_or ns 3 0) (get_or ns 4 0) (get_or ns 5 0) (get_or ns 6 0)

numbers_tell : (a b : List LocationRow) → location_numbers a ≡ location_numbers b → a ≡ b
unfolding location_numbers
numbers_tell [] [] e = refl
numbers_tell [] (m ∷ b) e = let z : 0 ≡ suc (suc (suc (suc (suc (suc (suc (length (location_numbers b)))))))) = ap length e in absurd (omega arith)
numbers_tell (l ∷ a) [] e = let z : suc (suc (suc (suc (suc (suc (suc (length (location_numbers a)))))))) ≡ 0 = ap length e in absurd (omega arith)
numbers_tell (l ∷ a) (m ∷ b) e =
    let p : l ≡ m = ap first_row e in
    let q : a ≡ b = numbers_tell a b (ap (λ ns. drop 7 ns) e) in
    rw (p, q)

-- ---- a text and its rows

-- a text's own rows pass
pub own_rows : (gaps : Bool) (text : List ℕ) → read_as (reading gaps text) (rows_in gaps text) ≡ true
own_rows gaps text = go (reading gaps text)
  where
    go : (o : Reading) → read_as o (rows_one o) ≡ true
    go (one ls) = same_self (location_numbers ls)
    go none = refl
    go too_deep = refl

-- ROWS THAT NUMBER 10 PASSES, of a text that number 11 passes, ARE ITS READING'S
pub rows_are : (gaps : Bool) (text : List ℕ) (rows : List LocationRow) → read_as (reading gaps text) rows ≡ true → locates gaps text ≡ true → rows ≡ rows_in gaps text
rows_are gaps text rows h k = go (reading gaps text) h k
  where
    go : (o : Reading) → read_as o rows ≡ true → is_one o ≡ true → rows ≡ rows_one o
    go (one ls) h k = sym (numbers_tell ls rows (same_is (location_numbers ls) (location_numbers rows) h))
    go none h k = impossible cc
    go too_deep h k = impossible cc

-- ---- number 10 sees to it

module _ (r : Rooms) where
  location_read :
      (gaps : Bool) (text : List ℕ) (row rows : ℕ) → location_fine gaps r text row rows ≡ true → read_as (reading gaps text) (locations_from r row rows) ≡ true
  unfolding location_fine
  location_read gaps text row rows h = and_right (eqb rows 0 || span_fine (length r.locations / 7) row rows) _ h

  feature_read_lem : (at : ℕ) → feature_row_fine r at ≡ true → feature_read (feature_in r at) ≡ true
  unfolding feature_row_fine feature_in
  feature_read_lem at h =
      let h₁ = and_right (row_text_fine r r.features at) _ h in
      let h₂ = and_right (row_text_fine r r.features (at + 2)) _ h₁ in
      location_read false (text_in r.texts r.features (at + 2)) (get_or r.features (at + 6) 0) (get_or r.features (at + 7) 0) h₂

  abbrev first : ℕ → ℕ
  first i = get_or r.features (8 * i + 4) 0

  abbrev count : ℕ → ℕ
  count i = get_or r.features (8 * i + 5) 0

  features_step :
      (i from n : ℕ) → ((from' : ℕ) → features_fine r (i + 1) from' n ≡ true → all feature_read (rows_from (feature_in r) 8 (i + 1) n) ≡ true) →
      features_fine r i from (suc n) ≡ true → all feature_read (rows_from (feature_in r) 8 i (suc n)) ≡ true
  unfolding features_fine rows_from
  features_step i from n next h = go (feature_row_fine r (8 * i)) refl (eqb (count i) 0) refl (qualifiers_fine r from (first i) (count i)) refl
    where
      go :
          (a : Bool) → feature_row_fine r (8 * i) ≡ a → (b : Bool) → eqb (count i) 0 ≡ b → (c : Bool) → qualifiers_fine r from (first i) (count i) ≡ c →
          all feature_read (rows_from (feature_in r) 8 i (suc n)) ≡ true
      go false e b f c g = impossible cc
      go true e true f c g = rw (feature_read_lem (8 * i) e) (next from (rw (features_fine, e, f) at h))
      go true e false f true g = rw (feature_read_lem (8 * i) e) (next (first i + count i) (rw (features_fine, e, f, g) at h))
      go true e false f false g = impossible cc

  features_read_lem : (n i from : ℕ) → features_fine r i from n ≡ true → all feature_read (rows_from (feature_in r) 8 i n) ≡ true
  unfolding rows_from
  features_read_lem zero i from h = refl
  features_read_lem (suc n) i from h = features_step i from n (features_read_lem n (i + 1)) h

  contig_read_lem : (c : Option ContigText) → contig_text_fine r c ≡ true → contig_read (may_contig r c) ≡ true
  contig_read_lem None h = refl
  contig_read_lem (Some c) h =
      location_read true (span_text r.texts c.text) c.row c.rows (and_right (span_fine (length r.texts) c.text.start c.text.length) _ h)

-- the last of the head's tests
contig_of_head : (r : Rooms) (h : Head) → head_fine r h ≡ true → contig_text_fine r h.contig ≡ true
unfolding head_fine
contig_of_head r h e =
    let n : ℕ = length r.texts in
    let e₁ = and_right (text_fine n h.name) _ e in
    let e₂ = and_right (text_fine n h.molecule) _ e₁ in
    let e₃ = and_right (span_fine n h.division.start h.division.length) _ e₂ in
    let e₄ = and_right (text_fine n h.definition) _ e₃ in
    let e₅ = and_right (text_fine n h.accession) _ e₄ in
    let e₆ = and_right (text_fine n h.version) _ e₅ in
    let e₇ = and_right (text_fine n h.dblink) _ e₆ in
    let e₈ = and_right (text_fine n h.keywords) _ e₇ in
    and_right (source_fine n h.source) _ e₈

-- WHERE NUMBER 10 IS NOT DUE, THE LOCATION ROWS OF THE TABLE ARE THOSE OF ITS TEXTS
pub fine_read : (r : Rooms) (h : Head) → rooms_fine r h ≡ true → locations_read (table_of r h) ≡ true
unfolding rooms_fine table_of locations_read
fine_read r h e =
    let e₁ = and_right (lengths_fine r) _ e in
    let e₂ = and_right (head_fine r h) _ e₁ in
    let e₃ = and_right (counts_fine r h) _ e₂ in
    let e₄ = and_right (rows_fine (reference_row_fine r) 14 0 h.references) _ e₃ in
    let e₅ = and_right (rows_fine (comment_row_fine r) 2 0 h.comments) _ e₄ in
    rw (features_read_lem r h.features 0 0 e₅) (contig_read_lem r h.contig (contig_of_head r h (and_left (head_fine r h) _ e₁)))
