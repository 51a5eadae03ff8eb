-- How long a written record can be, of a table for which number 10 is not due: a number of 64 bits.
use Rattle.std.specs.Prelude.{ℕ, ◌+◌, ◌*◌, ◌/◌, ◌^◌, ◌≤◌, ◌<◌, ◌≡◌, Bool, true, List, length, take, Option, Some, None}
use Rattle.std.proofs.Common.{arith, length-take}
use Rattle.spec_format.specs.Rooms.{Rooms, cut, may_contig, features_fine, rooms_fine, table_of}
use Rattle.spec_format.specs.Write.{locus_text, contig_lines, origin_lines, written}
use Rattle.spec_format.specs.declared.Head.{Head}
use Rattle.spec_format.specs.declared.ContigText.{ContigText}
use Rattle.write_feature.specs.Lines.{contig_length}
use Rattle.write_origin.specs.Origin.{origin_length}
use Rattle.judge_rooms.specs.Steps.{and_left, and_right}
use Rattle.judge_rooms.specs.Facts.{RoomsIn}
use Rattle.judge_rooms.proofs.Facts.{rooms_in_lem}
use Rattle.write_header.specs.Bound.{AtMost, none_most, both_most, cut_most, header_most}
use Rattle.write_locus.specs.Bound.{locus_length}
use Rattle.write_record_parts.specs.FeatureBound.{features_most}
use Rattle.spec_format.specs.Record.{most}

ruleset parts = (and_left, and_right)

-- 23 * 16,777,216 + 13
contig_most : (W : ℕ) (r : Rooms) (c : Option ContigText) → length r.texts ≤ most → AtMost (contig_lines W (may_contig r c)) 385875981
contig_most W r None h = none_most
contig_most W r (Some c) h =
    record { is = omega (arith, contig_length W (cut r.texts c.text.start c.text.length), cut_most r.texts c.text.start c.text.length) }

-- 22 * 16,777,216 + 13
origin_most : (letters : List ℕ) (n : ℕ) → length letters ≤ most → AtMost (origin_lines (take n letters)) 369098765
origin_most letters n h = let e : length (take n letters) ≤ length letters = simp length-take (omega arith) in record { is = omega (arith, origin_length (take n letters)) }

features_fine_lem : (r : Rooms) (h : Head) → rooms_fine r h ≡ true → features_fine r 0 0 h.features ≡ true
unfolding rooms_fine
features_fine_lem r h e = search parts depth 12

locus_most : (truncate escape : Bool) (r : Rooms) (h : Head) → AtMost (locus_text truncate escape (table_of r h)) (3 * length r.texts + 200)
locus_most truncate escape r h = record { is = locus_length truncate escape r h }

written_most : (W : ℕ) (truncate escape : Bool) (r : Rooms) (h : Head) → RoomsIn r h → features_fine r 0 0 h.features ≡ true
    → AtMost (written W truncate escape (table_of r h))
    ((3 * length r.texts + 200) + (2818572547 + 2818572547 * h.references + 402653221 * h.comments) +
    (41 + 402653206 * h.features + 419430448 * (length r.qualifiers / 4)) +
    385875981 +
    369098765 +
    3)
unfolding written table_of
written_most W truncate escape r h k e =
    both_most
    (both_most
    (both_most
    (both_most
    (both_most (locus_most truncate escape r h) (header_most W r k.lengths.texts h))
    (features_most W r k.lengths.texts h.features e))
    (contig_most W r h.contig k.lengths.texts))
    (origin_most r.letters h.letters k.lengths.letters))
    (record { is = omega arith })

pub written_small : (W : ℕ) (truncate escape : Bool) (r : Rooms) (h : Head) → rooms_fine r h ≡ true → length (written W truncate escape (table_of r h)) < 2 ^ 64
written_small W truncate escape r h e =
    let k = rooms_in_lem r h e in
    let m = written_most W truncate escape r h k (features_fine_lem r h e) in
    omega (
      arith,
      m.is,
      k.lengths.texts,
      k.lengths.references,
      k.lengths.comments,
      k.lengths.features,
      k.lengths.qualifiers,
      k.counts.references,
      k.counts.comments,
      k.counts.features,
    )
