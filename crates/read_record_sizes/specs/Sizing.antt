-- What a plan takes of the rooms, its head, and whether rooms of given lengths hold that much.
use Rattle.std.specs.Prelude.{ℕ, ◌+◌, ◌/◌, Bool, ◌&&◌, leb, Option, Some, None}
use Rattle.spec_format.specs.declared.Head.{Head}
use Rattle.spec_format.specs.declared.Sizes.{Sizes}
use Rattle.spec_format.specs.declared.ContigText.{ContigText}
use Rattle.read_field_optional.specs.Fields.{may_length}
use Rattle.read_field_optional.specs.declared.MayEntry.{MayEntry}
use Rattle.read_field_optional.specs.declared.MayEntry.TheVariants as may
use Rattle.read_record_head.specs.Places.{head_bytes, head_in}
use Rattle.read_record_plan.specs.declared.Plan.{Plan}

-- where CONTIG's text starts in the store
abbrev pub contig_place : Plan → ℕ
contig_place p = head_bytes p.locus p.header + p.header.reference_bytes + p.header.comment_bytes + p.rest.features.bytes

-- how many bytes the store takes
abbrev pub texts_plan : Plan → ℕ
texts_plan p = contig_place p + may_length p.rest.contig

-- how many location rows there are
abbrev pub locations_plan : Plan → ℕ
locations_plan p = p.rest.features.rows + p.rest.contig_rows

unfoldable pub sizes_in : Plan → Sizes
sizes_in p =
    record {
      texts = texts_plan p;
      references = p.header.references;
      comments = p.header.comments;
      features = p.rest.features.count;
      qualifiers = p.rest.features.qualifiers;
      locations = locations_plan p;
      letters = p.rest.letters;
    }

-- CONTIG at a place in the store, its rows from `row` on
abbrev pub contig_entry : ℕ → MayEntry → ℕ → ℕ → Option ContigText
contig_entry place may.Absent row rows = None
contig_entry place (may.Is e) row rows = Some (record { text = record { start = place; length = e.length }; row = row; rows = rows })

unfoldable pub head_plan : Plan → Head
head_plan p =
    head_in p.locus p.header p.rest.features.count (contig_entry (contig_place p) p.rest.contig p.rest.features.rows p.rest.contig_rows)
    p.rest.letters

-- `fits` by the lengths of the rooms
unfoldable pub fits_in : Sizes → ℕ → ℕ → ℕ → ℕ → ℕ → ℕ → ℕ → Bool
fits_in n texts references comments features qualifiers locations letters =
    leb n.texts texts && (leb n.references (references / 14) && (leb n.comments (comments / 2) && (leb n.features (features / 8) &&
    (leb n.qualifiers (qualifiers / 4) && (leb n.locations (locations / 7) && leb n.letters letters)))))
