-- One feature put into rooms, and its row. Assumes nothing.
use Prim.Native.Nat.{ℕ, ◌+◌, ◌-◌, ◌≤◌, ◌<◌, ◌^◌}
use mathlib.Core.Bool.{Bool, true, false}
use mathlib.Core.Path.{◌≡◌, refl, sym, ap, subst}
use mathlib.Core.List.{List, [], ◌∷◌}
use native.Mathlib.Omega.{arith}
use lib.ListN.{length, drop, length-append}
use Rattle.spec_format.specs.Table.{Feature}
use Rattle.spec_format.specs.Readers.{Ans, got, no, cut, bind, passing, fit_turn, end}
use Rattle.spec_format.specs.Features.{qualifier, bare, feature_from, feature}
use Rattle.spec_format.specs.Location.{locates, rows_in}
use Rattle.spec_format.specs.Rooms.{pieces_text, pieces_row, feature_pieces, qualifier_pieces, texts_of, rows_of, feature_text}
use Rattle.scan_bytes.specs.Places.{part}
use Rattle.scan_bytes.specs.Parts.{length_part}
use Rattle.base_pen.specs.Pen.{Wrote, Writes, wrote_append, writes_as}
use Rattle.base_pen.specs.Filling.{wrote_as}
use Rattle.read_feature_location.specs.Places.{LocationPut, location_places, location_put}
use Rattle.read_feature_location.specs.declared.Located.{Located}
use Rattle.read_feature_location.specs.declared.Located.TheVariants as located
use Rattle.read_feature_bare.specs.Bared.{bare_text}
use Rattle.read_feature_names.specs.Headed.{feature_head, KindRead}
use Rattle.read_feature_names.specs.declared.Kind.{Kind}
use Rattle.read_feature_names.specs.declared.Kind.TheVariants as kind
use Rattle.read_feature_qualifiers.specs.Turns.{qualifiers_in}
use Rattle.read_feature_table.specs.Reads.{Placed, feature_rest}
use Rattle.read_feature_table.specs.Texts.{head_text_lem, whole_text, whole_length}
use Rattle.read_feature_table.specs.Steps.{kind_is, kind_bad, kind_short, kinded, placed, location_is, location_bad, location_short}
use Rattle.read_feature_qualifier_rows.specs.declared.Run.{Run}
use Rattle.read_feature_qualifier_rows.specs.Puts.{WroteTwo, PutTwo, QualifiersPut}
use Rattle.read_feature_row.specs.declared.Reached.{Reached}
use Rattle.read_feature_row.specs.declared.Made.{Made}
use Rattle.read_feature_row.specs.Makes.{Ahead, LineTold, no_row, row_of, under_of, FeatureWrote, RowThen, RowMade, LocationsThen, FeaturePut}

-- ---- the text of a location

-- in one line it is a part of the slice
pub told_put : (s : List ℕ) (at indent long : ℕ) (line : Bool) (old new : List ℕ) (place next : ℕ)
    → LineTold s at indent long line → line ≡ true → Writes old place (part at (at + long) s) new next → Writes old place (bare_text indent (drop at s)) new next
told_put s at indent long line old new place next h e w = writes_as (sym (h.single e)) w

-- ---- one feature

row_is : (at q l : ℕ) (f : Feature) →
    row_of at q l f ≡ at ∷ length f.kind ∷ (at + length f.kind) ∷ length f.location ∷ q ∷ length f.qualifiers ∷ l ∷ length f.rows ∷ []
unfolding pieces_row
row_is at q l f = refl

-- what is made of a feature at p: kind and location of so many bytes, the location's text from `start` on with so many rows, and a run of qualifiers
abbrev made_of : Reached → ℕ → ℕ → ℕ → ℕ → Run → Made
made_of p kind start location rows run =
    record {
      row =
          record {
            kind = record { start = p.text; length = kind };
            location = record { start = start; length = location };
            first = p.count;
            count = run.count;
            row = p.location;
            rows = rows;
          };
      reached = record { at = run.next; text = run.text; row = p.row + 1; qualifier = run.row; count = p.count + run.count; location = p.location + rows };
    }

-- kind, location and qualifiers one after the other
module _ (f : Feature) (p : Reached) (t₀ m₁ m₂ t₁ q₀ q₁ : List ℕ) (start stop : ℕ) (run : Run) (kind long rows : ℕ) where
  put_all : Writes t₀ p.text f.kind m₁ start → Writes m₁ start f.location m₂ stop
      → PutTwo (texts_of qualifier_pieces f.qualifiers) (rows_of qualifier_pieces stop f.qualifiers) m₂ stop t₁ run.text q₀ p.qualifier q₁ run.row
      → kind ≡ length f.kind → long ≡ length f.location → rows ≡ length f.rows → run.count ≡ length f.qualifiers
      → p.text + length (feature_text f) < 2 ^ 64 → p.qualifier + length (under_of p.text f) < 2 ^ 64
      → FeatureWrote p f t₀ t₁ q₀ q₁ (made_of p kind start long rows run)
  put_all w u v kind_long long-is rowed counted a c =
      let g = whole_text f in
      let n = whole_length f in
      let y : Wrote t₀ p.text f.kind m₁ start = w.fit (omega arith) in
      let d = y.to in
      let z : Wrote m₁ start f.location m₂ stop = u.fit (omega arith) in
      let e = z.to in
      let h : p.text + length (pieces_text (feature_pieces f)) ≡ stop = omega (arith, ap length (head_text_lem f), length-append f.kind f.location) in
      let k : WroteTwo (texts_of qualifier_pieces f.qualifiers) (rows_of qualifier_pieces stop f.qualifiers) m₂ stop t₁ run.text q₀ p.qualifier q₁ run.row =
      v.fit (omega arith) (subst (λ (m : ℕ). p.qualifier + length (rows_of qualifier_pieces m f.qualifiers) < 2 ^ 64) h c) in
      record {
        texts = wrote_as (sym g) (wrote_append (wrote_append y z) k.texts);
        row = rw (kind_long, d, long-is, rowed, counted) (sym (row_is p.text p.count p.location f));
        qualifiers = subst (λ (m : ℕ). Wrote q₀ p.qualifier (rows_of qualifier_pieces m f.qualifiers) q₁ run.row) (sym h) k.rows;
      }

module _ (s : List ℕ) (p : Reached) (first end' location long rows rest : ℕ) (ready : Ahead s p) (h : Placed s p.at first end' location long rows rest) where
  -- the number of qualifiers stays below the place where reading goes on
  pub count_fits : {t₀ : List ℕ} {place : ℕ} {t₁ r₀ : List ℕ} {row : ℕ} {r₁ : List ℕ} {run : Run} →
      QualifiersPut s rest (location - p.at) t₀ place t₁ r₀ row r₁ run → p.count + run.count ≤ length s
  count_fits k =
      let a = h.before in let b = h.kind in let c = h.gap in let d = h.ahead in let f = k.few in let w = k.within in let few = ready.few in
      omega arith

  -- so does the number of location rows
  pub rows_fit : p.location + rows ≤ length s
  rows_fit =
      let a = h.before in let b = h.kind in let c = h.gap in let d = h.few in let e = h.small in let w = h.within in let rowed = ready.rowed in
      omega arith

  pub located_made : (t₀ m₁ m₂ t₁ q₀ q₁ : List ℕ) (start stop : ℕ) (run : Run)
      → Writes t₀ p.text (part first end' s) m₁ start → Writes m₁ start (bare_text (location - p.at) (drop location s)) m₂ stop
      → QualifiersPut s rest (location - p.at) m₂ stop t₁ q₀ p.qualifier q₁ run
      → RowMade s p (feature_rest s p.at first end' location rest) t₀ t₁ q₀ q₁ (made_of p (end' - first) start long rows run)
  located_made t₀ m₁ m₂ t₁ q₀ q₁ start stop run w u k =
      let a = h.before in let b = h.kind in let c = h.gap in let d = h.ahead in let f = k.few in let few = ready.few in
      let i = h.few in let j = h.small in let m = ready.rowed in
      record { there = go (end (fit_turn (qualifier (location - p.at))) (drop rest s)) refl; next = refl; few = omega arith; rowed = omega arith; within = k.within }
    where
      f : Feature
      f =
          record {
            kind = part first end' s;
            location = bare_text (location - p.at) (drop location s);
            qualifiers = qualifiers_in s (location - p.at) rest;
            rows = rows_in false (bare_text (location - p.at) (drop location s));
          }

      kind_long : end' - first ≡ length (part first end' s)
      kind_long = let a = h.kind in let b = h.gap in let c = h.ahead in let d = h.within in sym (length_part s first end' (omega arith) (omega arith))

      go : (o : Ans Unit) → end (fit_turn (qualifier (location - p.at))) (drop rest s) ≡ o
          → RowThen s p
          (bind (bind o λ _ r. got (qualifiers_in s (location - p.at) rest) r) λ qualifiers z.
          got (record {
            kind = part first end' s;
            location = bare_text (location - p.at) (drop location s);
            qualifiers = qualifiers;
            rows = rows_in false (bare_text (location - p.at) (drop location s));
          }) z)
          t₀ t₁ q₀ q₁ (made_of p (end' - first) start long rows run)
      go (got tt z) e =
          record {
            fit = put_all f p t₀ m₁ m₂ t₁ q₀ q₁ start stop run (end' - first) long rows w u k.put kind_long h.sized h.rowed k.counted;
            counted = ap (λ (n : ℕ). p.count + n) k.counted;
            located = ap (λ (n : ℕ). p.location + n) h.rowed;
            ended = k.ended z e;
          }
      go no e = tt
      go cut e = tt

-- ---- a feature by its location, and by its kind

pub location_placed : (s : List ℕ) (p : Reached) (first end' location : ℕ) (l₀ l₁ : List ℕ) (v : Located)
    → LocationPut s location (bare_text (location - p.at) (drop location s)) (passing (locates false) (bare (location - p.at) (drop location s))) l₀ l₁ p.location v
    → (long rest rows : ℕ) (line : Bool) → p.at < first → first < end' → end' < location → v ≡ located.Got long rest rows line → Placed s p.at first end' location long rows rest
location_placed s p first end' location l₀ l₁ v h long rest rows line a b c e = placed s p.at first end' location v h.found long rest rows line a b c e

pub location_told_lem : (s : List ℕ) (p : Reached) (location : ℕ) (l₀ l₁ : List ℕ) (v : Located)
    → LocationPut s location (bare_text (location - p.at) (drop location s)) (passing (locates false) (bare (location - p.at) (drop location s))) l₀ l₁ p.location v
    → (long rest rows : ℕ) (line : Bool) → v ≡ located.Got long rest rows line → LineTold s location (location - p.at) long line
location_told_lem s p location l₀ l₁ v h long rest rows line e =
    let k = location_places h.found e in
    record { within = omega (arith, k.span.short, k.span.within); single = k.single }

module _ (s : List ℕ) (p : Reached) (t₀ t₁ q₀ q₁ l₀ l₁ : List ℕ) (r : Made) where
  -- where none starts
  none_made : (o : Ans Feature) → Ahead s p → RowThen s p o t₀ t₁ q₀ q₁ r → LocationsThen p o l₀ l₁ → r ≡ no_row p → FeaturePut s p o t₀ t₁ q₀ q₁ l₀ l₁ r
  none_made o ready k l e =
      record { made = record { there = k; next = rw e; few = rw e ready.few; rowed = rw e ready.rowed; within = rw e ready.within }; locations = l }

  module _ (first end' location : ℕ) (v : Located)
      (h : LocationPut s location (bare_text (location - p.at) (drop location s)) (passing (locates false) (bare (location - p.at) (drop location s))) l₀ l₁ p.location v) where
    -- the rows that were put are those of the feature, whatever its qualifiers
    rows_put : (long rest rows : ℕ) (line : Bool) → v ≡ located.Got long rest rows line → LocationsThen p (feature_rest s p.at first end' location rest) l₀ l₁
    rows_put long rest rows line e = go (end (fit_turn (qualifier (location - p.at))) (drop rest s))
      where
        go : (o : Ans Unit) → LocationsThen p
            (bind (bind o λ _ z. got (qualifiers_in s (location - p.at) rest) z) λ qualifiers z.
            got (record {
              kind = part first end' s;
              location = bare_text (location - p.at) (drop location s);
              qualifiers = qualifiers;
              rows = rows_in false (bare_text (location - p.at) (drop location s));
            }) z) l₀ l₁
        go (got u z) = location_put h e
        go no = tt
        go cut = tt

    pub location_got : (long rest rows : ℕ) (line : Bool) → v ≡ located.Got long rest rows line → RowMade s p (feature_rest s p.at first end' location rest) t₀ t₁ q₀ q₁ r
        → FeaturePut s p (feature_from (location - p.at) (part first end' s) (drop location s)) t₀ t₁ q₀ q₁ l₀ l₁ r
    location_got long rest rows line e g =
        rw (location_is s p.at first end' location v h.found long rest rows line e) (record { made = g; locations = rows_put long rest rows line e })

    pub location_no : Ahead s p → v ≡ located.No → r ≡ no_row p →
        FeaturePut s p (feature_from (location - p.at) (part first end' s) (drop location s)) t₀ t₁ q₀ q₁ l₀ l₁ r
    location_no ready e k =
        let b = location_bad s p.at first end' location v h.found e in
        none_made _ ready (rw b tt) (rw b tt) k

    pub location_cut : Ahead s p → v ≡ located.Cut → r ≡ no_row p →
        FeaturePut s p (feature_from (location - p.at) (part first end' s) (drop location s)) t₀ t₁ q₀ q₁ l₀ l₁ r
    location_cut ready e k =
        let b = location_short s p.at first end' location v h.found e in
        none_made _ ready (rw b tt) (rw b tt) k

  module _ (k : Kind) (h : KindRead s p.at (feature_head (drop p.at s)) k) where
    pub kind_got : (first end' next : ℕ) → k ≡ kind.Got first end' next
        → FeaturePut s p (feature_from (next - p.at) (part first end' s) (drop next s)) t₀ t₁ q₀ q₁ l₀ l₁ r → FeaturePut s p (feature (drop p.at s)) t₀ t₁ q₀ q₁ l₀ l₁ r
    kind_got first end' next e g = rw (kind_is s p.at k h first end' next e) g

    pub kind_no : Ahead s p → k ≡ kind.No → r ≡ no_row p → FeaturePut s p (feature (drop p.at s)) t₀ t₁ q₀ q₁ l₀ l₁ r
    kind_no ready e d = let b = kind_bad s p.at k h e in none_made _ ready (rw b tt) (rw b tt) d

    pub kind_cut : Ahead s p → k ≡ kind.Cut → r ≡ no_row p → FeaturePut s p (feature (drop p.at s)) t₀ t₁ q₀ q₁ l₀ l₁ r
    kind_cut ready e d = let b = kind_short s p.at k h e in none_made _ ready (rw b tt) (rw b tt) d

pub ruleset placing = (location_placed, location_told_lem, location_got, location_no, location_cut)

pub ruleset naming = (kinded, kind_got, kind_no, kind_cut)
