-- Sizes and head of a plan are those of its table, and no place in its store is too large for a usize.
use Rattle.std.specs.Prelude.{ℕ, ◌+◌, ◌<◌, ◌^◌, false, ◌≡◌, refl, List, ◌++◌}
use Rattle.std.proofs.Common.{arith, sym, ◌∙◌, length-append}
use Rattle.std.proofs.Math.Path.{ap}
use Rattle.std.proofs.Math.ListN.{length}
use Rattle.spec_format.specs.Bytes.{May, absent, is, each}
use Rattle.spec_format.specs.Table.{Contig, Table}
use Rattle.spec_format.specs.Rooms.{Rooms, perhaps, piece_text, contig_text, contig_rows, location_count, contig_text_at, pieces_text, head_pieces, reference_pieces, comment_pieces, texts_of, feature_text, contig_at, layout, sizes, head_of, fits}
use Rattle.spec_format.specs.declared.Sizes.{Sizes}
use Rattle.read_field_optional.specs.declared.MayEntry.{MayEntry}
use Rattle.read_field_optional.specs.declared.MayEntry.TheVariants as may
use Rattle.read_field_optional.specs.Fields.{MayStand, may_length}
use Rattle.read_field_reference.specs.Standing.{may_sized}
use Rattle.read_record_head.specs.Stands.{HeadStands, head_sized, head_made}
use Rattle.read_contig.specs.Contigs.{contig_in, contig_as}
use Rattle.read_record_plan.specs.declared.Plan.{Plan}
use Rattle.read_record_plan.specs.Plans.{plan_table, Ready}
use Rattle.read_record_plan.specs.Parts.{TableParts, table_parts, as_text, SmallParts, small_parts}
use Rattle.read_record_sizes.specs.Heads.{plan_head}
use Rattle.read_record_sizes.specs.Sizing.{contig_place, texts_plan, locations_plan, sizes_in, contig_entry, head_plan, fits_in}

texts_long : (t : Table) → length (layout t).texts ≡ contig_at t + length (piece_text (perhaps (contig_text t.contig)))
unfolding layout
texts_long t =
    let H : List ℕ = pieces_text (head_pieces t) in
    let R : List ℕ = texts_of reference_pieces t.references in
    let C : List ℕ = texts_of comment_pieces t.comments in
    let F : List ℕ = each feature_text t.features in
    let G : List ℕ = piece_text (perhaps (contig_text t.contig)) in
    omega (arith, length-append H R, length-append (H ++ R) C, length-append (H ++ R ++ C) F, length-append (H ++ R ++ C ++ F) G)

abbrev sized : ℕ → ℕ → ℕ → ℕ → ℕ → ℕ → ℕ → Sizes
sized a b c d e f g = record { texts = a; references = b; comments = c; features = d; qualifiers = e; locations = f; letters = g }

sizes_equal : (n m : Sizes) → n.texts ≡ m.texts → n.references ≡ m.references → n.comments ≡ m.comments → n.features ≡ m.features →
    n.qualifiers ≡ m.qualifiers → n.locations ≡ m.locations → n.letters ≡ m.letters → n ≡ m
sizes_equal n m t r c f q o l =
    ap (λ (x : ℕ). sized x n.references n.comments n.features n.qualifiers n.locations n.letters) t
    ∙ ap (λ (x : ℕ). sized m.texts x n.comments n.features n.qualifiers n.locations n.letters) r
    ∙ ap (λ (x : ℕ). sized m.texts m.references x n.features n.qualifiers n.locations n.letters) c
    ∙ ap (λ (x : ℕ). sized m.texts m.references m.comments x n.qualifiers n.locations n.letters) f
    ∙ ap (λ (x : ℕ). sized m.texts m.references m.comments m.features x n.locations n.letters) q
    ∙ ap (λ (x : ℕ). sized m.texts m.references m.comments m.features m.qualifiers x n.letters) o
    ∙ ap (λ (x : ℕ). sized m.texts m.references m.comments m.features m.qualifiers m.locations x) l

pub fits_in_lem : (n : Sizes) (r : Rooms) →
    fits n r ≡ fits_in n (length r.texts) (length r.references) (length r.comments) (length r.features) (length r.qualifiers) (length r.locations)
    (length r.letters)
unfolding fits fits_in
fits_in_lem n r = refl

module _ (s : List ℕ) (p : Plan) (h : Ready s p) where
  parts : TableParts s p
  parts = table_parts s p

  small : SmallParts (length s) (plan_table s p)
  small = small_parts s p h.stands

  stands : HeadStands s p.header_at p.locus p.header (plan_table s p)
  stands = plan_head s p h.stands

  contig_place_lem : contig_place p ≡ contig_at (plan_table s p)
  contig_place_lem =
      let g = h.stands.header in
      let r : p.header.reference_bytes ≡ length (texts_of reference_pieces (plan_table s p).references) = rw parts.references g.reference_bytes in
      let c : p.header.comment_bytes ≡ length (texts_of comment_pieces (plan_table s p).comments) = rw parts.comments g.comment_bytes in
      let f : p.rest.features.bytes ≡ length (each feature_text (plan_table s p).features) = rw parts.features h.stands.rest.middle.read.bytes in
      omega (arith, head_sized s p.header_at p.locus p.header (plan_table s p) stands)

  pub contig_bound : contig_place p < 2 ^ 64
  contig_bound =
      rw contig_place_lem (omega (arith, small.head, small.reference_texts, small.comment_texts, small.feature_texts, h.most))

  contig_long : may_length p.rest.contig ≡ length (piece_text (perhaps (contig_text (plan_table s p).contig)))
  contig_long =
      rw (parts.contig, as_text (contig_in s p.rest.contig)) (may_sized s 0 false (contig_in s p.rest.contig) p.rest.contig h.stands.rest.middle.contig.text)

  rows_long : p.rest.features.rows ≡ location_count (plan_table s p).features
  rows_long = rw parts.features h.stands.rest.middle.read.rows

  pub locations_bound : locations_plan p < 2 ^ 64
  locations_bound =
      omega (arith, rows_long, small.locations, small.contig_rows, h.stands.rest.middle.contig.counted, ap (λ (x : May Contig). length (contig_rows x)) parts.contig, h.most)

  pub sizes_is : sizes_in p ≡ sizes (plan_table s p)
  unfolding sizes_in sizes
  sizes_is =
      let g = h.stands.header in
      let m = h.stands.rest.middle in
      sizes_equal (sizes_in p) (sizes (plan_table s p))
      (omega (arith, contig_place_lem, contig_long, texts_long (plan_table s p)))
      (rw parts.references g.references)
      (rw parts.comments g.comments)
      (rw parts.features m.read.count)
      (rw parts.features m.read.qualifiers)
      (omega (arith, rows_long, m.contig.counted, ap (λ (x : May Contig). length (contig_rows x)) parts.contig))
      (rw parts.letters h.stands.rest.counted)

  pub sizes_bound : texts_plan p < 2 ^ 64
  sizes_bound =
      omega
      (arith, contig_place_lem, contig_long, small.head, small.reference_texts, small.comment_texts, small.feature_texts, small.contig, h.most)

  -- CONTIG stands in the head as its entry says
  contig_is :
      contig_entry (contig_place p) p.rest.contig p.rest.features.rows p.rest.contig_rows
      ≡ contig_text_at (contig_at (plan_table s p)) (location_count (plan_table s p).features) (plan_table s p).contig
  contig_is =
      let m = h.stands.rest.middle.contig in
      let t = plan_table s p in
      ap (λ (a : ℕ). contig_entry a p.rest.contig p.rest.features.rows p.rest.contig_rows) contig_place_lem ∙
      ap (λ (l : ℕ). contig_entry (contig_at t) p.rest.contig l p.rest.contig_rows) rows_long ∙
      go (contig_at t) (location_count t.features) p.rest.contig p.rest.contig_rows (contig_in s p.rest.contig) m.text m.counted ∙
      ap (λ (c : May Contig). contig_text_at (contig_at t) (location_count t.features) c) (sym parts.contig)
    where
      go : (a l : ℕ) (e : MayEntry) (rows : ℕ) (t : May (List ℕ)) → MayStand s 0 false t e → rows ≡ length (contig_rows (contig_as t)) →
          contig_entry a e l rows ≡ contig_text_at a l (contig_as t)
      go a l may.Absent rows absent k c = refl
      go a l may.Absent rows (is t) k c = absurd k
      go a l (may.Is e) rows absent k c = absurd k
      go a l (may.Is e) rows (is t) k c = rw (k.sized, c)

  pub head_is : head_plan p ≡ head_of (plan_table s p)
  unfolding head_plan
  head_is =
      let g = h.stands.header in
      let m = h.stands.rest.middle in
      head_made s p.header_at p.locus p.header (plan_table s p) stands p.rest.features.count
      (contig_entry (contig_place p) p.rest.contig p.rest.features.rows p.rest.contig_rows) p.rest.letters
      (rw parts.references g.references) (rw parts.comments g.comments) (rw parts.features m.read.count) contig_is
      (rw parts.letters h.stands.rest.counted)
