-- The laws of the puts: what each asks for, and that together they leave the table's layout but for its features.
use Prim.Native.Nat.{ℕ, ◌+◌, ◌*◌, ◌≤◌, ◌<◌, ◌^◌}
use native.Mathlib.Omega.{arith}
use mathlib.Core.Bool.{true, false}
use mathlib.Core.Path.{◌≡◌, refl, ap, subst, ◌∙◌}
use mathlib.Core.List.{List}
use lib.ListN.{length, drop}
use lib.Seq.{sets}
use Rattle.spec_format.specs.Bytes.{bytes}
use Rattle.spec_format.specs.Header.{field_text, every, text_in, reference_in}
use Rattle.spec_format.specs.Rooms.{perhaps, piece_text, contig_text, contig_rows, location_numbers, location_count, pieces_text, head_pieces, reference_pieces, comment_pieces, texts_of, rows_of, references_at, comments_at, features_at, contig_at, layout, sizes}
use Rattle.spec_format.specs.Location.{one, reading, locates, rows_in}
use Rattle.spec_format.specs.Deep.{so_far}
use Rattle.spec_format.specs.Record.{most}
use Rattle.spec_format.specs.WellFormed.{if_is}
use Rattle.spec_location.specs.Bytes.{locates_rows}
use Rattle.scan_bytes.specs.Places.{part}
use Rattle.scan_bytes.specs.Parts.{length_part}
use Rattle.scan_location_bytes.specs.declared.Laid.TheVariants as laids
use Rattle.scan_location_bytes.specs.Views.{view}
use Rattle.read_location.specs.declared.Location.{Location}
use Rattle.read_location.specs.Reads.{Answered}
use Rattle.spec_rooms.specs.LayoutLengths.{Lengths, layout_lengths}
use Rattle.base_pen.specs.Pen.{Wrote, Writes, writes_nil, wrote_append}
use Rattle.base_pen.specs.Filling.{wrote_as}
use Rattle.read_letters.specs.Runs.{sifted}
use Rattle.read_field_entry.specs.declared.Entry.{Entry}
use Rattle.read_field_text.specs.Texts as entry
use Rattle.read_field_optional.specs.declared.MayEntry.{MayEntry}
use Rattle.read_field_optional.specs.declared.MayEntry.TheVariants as may
use Rattle.read_field_optional.specs.Fields.{Stands, MayStand}
use Rattle.read_field_all.specs.Gathered.{fields_at}
use Rattle.read_contig.specs.Contigs.{contig_in, contig_as, entry_text_lem}
use Rattle.read_record_head.specs.Texts.{head_text, HeadGets}
use Rattle.read_record_head.specs.Stands.{HeadStands, head_gets, head_text_lem, text_small}
use Rattle.read_field_rows.specs.Puts.{Laid}
use Rattle.read_record_plan.specs.declared.Plan.{Plan}
use Rattle.read_record_plan.specs.Plans.{plan_table, Ready}
use Rattle.read_record_plan.specs.Parts.{TableParts, table_parts, as_text, SmallParts, small_parts}
use Rattle.read_record_sizes.specs.Heads.{plan_head}
use Rattle.read_record_frame.specs.Fills.{ContigReady, header_long, HeaderFilled, AroundFilled}

-- ---- CONTIG

module _ (s : List ℕ) (contig : MayEntry) (h : ContigReady s contig) where
  pub contig_absent : (l : List ℕ) (place : ℕ) → contig ≡ may.Absent → Writes l place (piece_text (perhaps (contig_in s contig))) l place
  contig_absent l place e = rw e writes_nil

  module _ (x : Entry) (e : contig ≡ may.Is x) where
    contig_stands : Stands s 0 false (entry.text_in (field_text x.columns false (drop x.text s))) x
    contig_stands = subst (λ (c : MayEntry). MayStand s 0 false (contig_in s c) c) e h.stands.text

    pub contig_within : x.text ≤ length s
    contig_within = omega (arith, contig_stands.ahead, contig_stands.within)

    pub contig_gets : entry.Gets (field_text x.columns false (drop x.text s))
    contig_gets = rw contig_stands.again tt

    pub contig_put : (l m : List ℕ) (place r : ℕ) → Writes l place (entry.text_in (field_text x.columns false (drop x.text s))) m r →
        Writes l place (piece_text (perhaps (contig_in s contig))) m r
    contig_put l m place r w = rw e w

    -- ---- its rows

    abbrev contig_text_lem : List ℕ
    contig_text_lem = entry.text_in (field_text x.columns false (drop x.text s))

    pub rows_from : x.text ≤ x.next
    rows_from = omega (arith, contig_stands.ahead)

    pub rows_to : x.next ≤ length s
    rows_to = contig_stands.within

    pub rows_short : length s ≤ most → length (part x.text x.next s) ≤ most
    rows_short m = omega (arith, rows_to, rows_from, length_part s x.text x.next rows_from rows_to)

    rows_read_lem : reading true (view (laids.Contig x.columns) (part x.text x.next s) 0) ≡ one (rows_in true contig_text_lem)
    rows_read_lem =
        let k : locates true contig_text_lem ≡ true = subst (λ (c : MayEntry). if_is (locates true) (contig_in s c) ≡ true) e h.stands.read in
        let w : so_far true x.columns (part x.text x.next s) ≡ contig_text_lem =
        entry_text_lem s x contig_text_lem contig_stands.again (omega (arith, contig_stands.ahead)) rows_to in
        ap (reading true) w ∙ locates_rows true contig_text_lem k

    pub rows_put : (old new : List ℕ) (first : ℕ) (r : Location) (seen : List ℕ) →
        Answered (reading true (view (laids.Contig x.columns) (part x.text x.next s) 0)) seen old first new r →
        new ≡ sets old (7 * first) (location_numbers (contig_rows (contig_as (contig_in s contig))))
    rows_put old new first r seen a = rw e (a.put (rows_in true contig_text_lem) rows_read_lem)

  pub rows_absent : (l : List ℕ) (first : ℕ) → contig ≡ may.Absent → l ≡ sets l (7 * first) (location_numbers (contig_rows (contig_as (contig_in s contig))))
  unfolding location_numbers
  rows_absent l first e = rw e refl

pub ruleset joining = (contig_absent, contig_within, contig_gets, contig_put)

pub ruleset rowing = (rows_from, rows_to, rows_short, rows_put, rows_absent)

-- ---- LOCUS and the header

module _ (s : List ℕ) (p : Plan) (h : Ready s p) where
  parts : TableParts s p
  parts = table_parts s p

  small : SmallParts (length s) (plan_table s p)
  small = small_parts s p h.stands

  lengths : Lengths (plan_table s p)
  lengths = layout_lengths (plan_table s p)

  pub header_within : p.header_at ≤ length s
  header_within = h.stands.headed

  pub letters_within : p.rest.letters_at ≤ length s
  letters_within = h.stands.rest.lettered

  stands : HeadStands s p.header_at p.locus p.header (plan_table s p)
  stands = plan_head s p h.stands

  text_is : head_text s p.locus p.header ≡ pieces_text (head_pieces (plan_table s p))
  text_is = head_text_lem s p.header_at p.locus p.header (plan_table s p) stands

  pub head_there : HeadGets s p.locus p.header
  head_there = head_gets s p.header_at p.locus p.header (plan_table s p) stands

  pub head_bound : length (head_text s p.locus p.header) < 2 ^ 64
  head_bound = text_small s p.header_at p.locus p.header (plan_table s p) stands h.most

  module _ (t₀ t₁ : List ℕ) (a : ℕ) (u : Wrote t₀ 0 (head_text s p.locus p.header) t₁ a) where
    first_place : a ≡ references_at (plan_table s p)
    first_place = omega (arith, u.to, ap length text_is)

    pub references_texts : a + length (texts_of reference_pieces (every reference_in (fields_at (drop p.header_at s)))) < 2 ^ 64
    references_texts = rw (← parts.references, first_place) (omega (arith, small.head, small.reference_texts, h.most))

    pub references_rows_lem : length (rows_of reference_pieces a (every reference_in (fields_at (drop p.header_at s)))) < 2 ^ 64
    unfolding layout sizes
    references_rows_lem = rw (← parts.references, first_place) (omega (arith, lengths.references, small.references, h.most))

    module _ (t₂ r₀ r₁ : List ℕ) (b : ℕ) (v : Laid reference_pieces t₁ r₀ a (every reference_in (fields_at (drop p.header_at s))) t₂ r₁ b) where
      references_laid : Laid reference_pieces t₁ r₀ (references_at (plan_table s p)) (plan_table s p).references t₂ r₁ b
      references_laid = rw (parts.references, ← first_place) v

      second_place : b ≡ comments_at (plan_table s p)
      second_place = references_laid.texts.to

      pub comments_texts : b + length (texts_of comment_pieces (every (text_in (bytes "COMMENT")) (fields_at (drop p.header_at s)))) < 2 ^ 64
      comments_texts =
          rw (← parts.comments, second_place) (omega (arith, small.head, small.reference_texts, small.comment_texts, h.most))

      pub comments_rows_lem : length (rows_of comment_pieces b (every (text_in (bytes "COMMENT")) (fields_at (drop p.header_at s)))) < 2 ^ 64
      unfolding layout sizes
      comments_rows_lem = rw (← parts.comments, second_place) (omega (arith, lengths.comments, small.comments, h.most))

      pub header_filled : (t₃ c₀ c₁ : List ℕ) (z : ℕ) →
          Laid comment_pieces t₂ c₀ b (every (text_in (bytes "COMMENT")) (fields_at (drop p.header_at s))) t₃ c₁ z →
          HeaderFilled (plan_table s p) t₀ t₃ r₀ r₁ c₀ c₁ z
      header_filled t₃ c₀ c₁ z w =
          let k : Laid comment_pieces t₂ c₀ (comments_at (plan_table s p)) (plan_table s p).comments t₃ c₁ z = rw (parts.comments, ← second_place) w in
          let x : Wrote t₀ 0 (pieces_text (head_pieces (plan_table s p))) t₁ a = wrote_as text_is u in
          let y : Wrote t₁ a (texts_of reference_pieces (plan_table s p).references) t₂ b = rw first_place references_laid.texts in
          let q : Wrote t₂ b (texts_of comment_pieces (plan_table s p).comments) t₃ z = rw second_place k.texts in
          record {
            texts = wrote_append (wrote_append x y) q;
            references = references_laid.rows;
            comments = k.rows;
          }

  -- ---- all but the features

  pub contig_ready : ContigReady s p.rest.contig
  contig_ready = record { rows = p.rest.contig_rows; stands = h.stands.rest.middle.contig }

  rows_long : p.rest.features.rows ≡ location_count (plan_table s p).features
  rows_long = rw parts.features h.stands.rest.middle.read.rows

  pub rows_first : p.rest.features.rows ≤ most
  rows_first = omega (arith, h.stands.rest.middle.read.short, h.stands.rest.middle.read.within, h.most)

  pub slice_short : length s ≤ most
  slice_short = h.most

  module _ (t₀ t₁ r₀ r₁ c₀ c₁ : List ℕ) (a : ℕ) (x : HeaderFilled (plan_table s p) t₀ t₁ r₀ r₁ c₀ c₁ a) where
    third_place : a ≡ features_at (plan_table s p)
    third_place = x.texts.to ∙ header_long (plan_table s p)

    fourth_place : a + p.rest.features.bytes ≡ contig_at (plan_table s p)
    fourth_place = rw (parts.features, ← h.stands.rest.middle.read.bytes) (ap (λ (n : ℕ). n + p.rest.features.bytes) third_place)

    pub gap_bound : a + p.rest.features.bytes < 2 ^ 64
    gap_bound = rw fourth_place (omega (arith, small.head, small.reference_texts, small.comment_texts, small.feature_texts, h.most))

    pub around_filled : (t₂ n₀ n₁ l₀ l₁ : List ℕ) (y z : ℕ) → Writes t₁ (a + p.rest.features.bytes) (piece_text (perhaps (contig_in s p.rest.contig))) t₂ y →
        n₁ ≡ sets n₀ (7 * p.rest.features.rows) (location_numbers (contig_rows (contig_as (contig_in s p.rest.contig)))) →
        Writes l₀ 0 (sifted (drop p.rest.letters_at s)) l₁ z → AroundFilled (plan_table s p) t₀ t₂ r₀ r₁ c₀ c₁ n₀ n₁ l₀ l₁ a
    around_filled t₂ n₀ n₁ l₀ l₁ y z u i v =
        let c : Writes t₁ (contig_at (plan_table s p)) (piece_text (perhaps (contig_text (plan_table s p).contig))) t₂ y =
        rw (parts.contig, as_text (contig_in s p.rest.contig), ← fourth_place) u in
        let k : Writes l₀ 0 (plan_table s p).letters l₁ z = rw parts.letters v in
        let w : Wrote t₁ (contig_at (plan_table s p)) (piece_text (perhaps (contig_text (plan_table s p).contig))) t₂ y =
        c.fit (omega (arith, small.head, small.reference_texts, small.comment_texts, small.feature_texts, small.contig, h.most)) in
        let m : Wrote l₀ 0 (plan_table s p).letters l₁ z = k.fit (omega (arith, small.letters, h.most)) in
        record {
          gap = third_place;
          texts = w.is ∙ ap (λ (l : List ℕ). sets l (contig_at (plan_table s p)) (piece_text (perhaps (contig_text (plan_table s p).contig)))) x.texts.is;
          references = x.references;
          comments = x.comments;
          locations = rw (← rows_long, parts.contig) i;
          letters = m.is;
        }

pub ruleset around = (contig_ready, rows_first, slice_short, letters_within, gap_bound, around_filled)
