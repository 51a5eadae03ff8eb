-- Where the trouble lies for which a record was not read: what stands from it on (document 02, ticket 2), and the line that an answer tells.
use Rattle.std.specs.Prelude.{ℕ, zero, suc, Bool, true, false, ◌&&◌, List, [], length, drop}
use Rattle.spec_format.specs.Bytes.{pick, May, absent, is, bytes}
use Rattle.spec_format.specs.Readers.{Ans, got, no, cut, optional, Turn, more, stop, while_fits}
use Rattle.spec_format.specs.Table.{Feature}
use Rattle.spec_format.specs.Locus.{preamble_turn, locus}
use Rattle.spec_format.specs.Header.{Field, header_field, text_in}
use Rattle.spec_format.specs.Deep.{deep_feature}
use Rattle.spec_format.specs.Origin.{Letters, at_slash, at_end, bad_byte, letters, origin_tag}
use Rattle.spec_format.specs.Record.{features, base_count, left_by, is_there, list_of, middle}
use Rattle.spec_format.specs.Strict.{stray_in}
use Rattle.spec_format.specs.declared.Unread.{Unread}
use Rattle.spec_format.specs.declared.Unread.TheVariants as unread
use Rattle.spec_format.specs.declared.ReadAnswer.{ReadAnswer}
use Rattle.spec_format.specs.declared.ReadAnswer.TheVariants as read
use Rattle.spec_lines.specs.Lines.{spot_of, nowhere}
use Rattle.spec_lines.specs.declared.Spot.{Spot}

-- what stands where the last turn of a loop was tried
module _ {A : Type 0} (turn : List ℕ → Ans (Turn A)) where
  unfoldable pub stopped_up_to : ℕ → List ℕ → List ℕ
  stopped_up_to zero s = s
  stopped_up_to (suc n) s = elim (turn s) [ got t r ↦ elim t [ more a ↦ stopped_up_to n r | stop ↦ s ] | no ↦ s | cut ↦ s ]

  unfoldable pub stopped : List ℕ → List ℕ
  stopped s = stopped_up_to (suc (length s)) s

-- "for 4 the line that stopped the search or the end"; "for 6 the LOCUS line", which the search stops at too
abbrev pub searched : List ℕ → List ℕ
searched s = stopped preamble_turn s

-- where the header begins, and where it ends
unfoldable pub header_begins : List ℕ → List ℕ
header_begins s = left_by (searched s) (locus (searched s))

unfoldable pub header_ends : List ℕ → List ℕ
header_ends s = left_by (header_begins s) (while_fits header_field (header_begins s))

-- "for 5 the second DEFINITION": from fields of the header on, the next DEFINITION that is taken; and after it the next
abbrev pub up_to : List ℕ → Ans Field → Ans (Turn Field)
up_to s (got f r) = pick (is_there (text_in (bytes "DEFINITION") f)) (got stop s) (got (more f) r)
up_to s no = got stop s
up_to s cut = got stop s

abbrev pub to_definition : List ℕ → Ans (Turn Field)
to_definition s = up_to s (header_field s)

abbrev pub definition : List ℕ → List ℕ
definition s = stopped to_definition s

unfoldable pub second_definition : List ℕ → List ℕ
second_definition s = definition (left_by (definition s) (header_field (definition s)))

-- "for 7 where the sections end", "for 8 the line of the `/`, for 9 that of the byte": where ORIGIN stands, what ends the letters
abbrev pub letters_end : Letters → List ℕ
letters_end (at_slash l r) = r
letters_end (at_end l) = []
letters_end (bad_byte r) = r

abbrev pub after_tag : List ℕ → Ans (List ℕ) → List ℕ
after_tag s (got u r) = letters_end (letters r)
after_tag s no = s
after_tag s cut = s

abbrev pub origin_ends : List ℕ → List ℕ
origin_ends s = after_tag s (origin_tag s)

unfoldable pub sections_end : List ℕ → List ℕ
sections_end s = origin_ends (left_by s (middle s))

-- "for 14 the location's first": the feature that stands where the features end, if it is too deep, else CONTIG
abbrev pub deep_with : List ℕ → Ans (May (List Feature)) → List ℕ
deep_with s (got fs r) = pick (is_there fs && deep_feature r) r (left_by r (base_count r))
deep_with s no = s
deep_with s cut = s

unfoldable pub deep_place : List ℕ → List ℕ
deep_place s = deep_with s (optional s (features s))

-- what stands from the trouble on, in the text from the place given on; 1 and 3 have no line. 16 comes "with the letter's line" (ticket 7)
abbrev pub troubled : Unread → List ℕ → May (List ℕ)
troubled unread.AtEnd s = absent
troubled unread.Unended s = is []
troubled unread.BadPlace s = absent
troubled unread.NoLocus s = is (searched s)
troubled unread.TwoDefinitions s = is (second_definition (header_begins s))
troubled unread.NoSlashes s = is (sections_end (header_ends s))
troubled unread.OtherLength s = is (sections_end (header_ends s))
troubled unread.BadLetter s = is (sections_end (header_ends s))
troubled unread.TooDeep s = is (deep_place (header_ends s))
troubled unread.StrayLetter s = is (list_of (stray_in s))

-- THE LINE THAT AN ANSWER TELLS, of a call that gave the slice s and the place `at`
abbrev pub spot_at : List ℕ → ℕ → May (List ℕ) → Spot
spot_at s at absent = nowhere
spot_at s at (is t) = spot_of s at t

abbrev pub read_spot : List ℕ → ℕ → ReadAnswer → Spot
read_spot s at (read.Done head place) = nowhere
read_spot s at (read.Refused why) = spot_at s at (troubled why (drop at s))
read_spot s at (read.Room sizes) = spot_at s at (is (searched (drop at s)))
