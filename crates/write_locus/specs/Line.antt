-- The LOCUS line in three parts, for a length that is given, and that it is the format's for the length of the table.
use Rattle.std.specs.Prelude.{◌≡◌, refl, ℕ, ◌≤◌, Bool, take, Option, Some, None}
use Rattle.std.proofs.Math.Path.{ap}
use Rattle.std.proofs.Common.{◌∙◌, arith}
use mathlib.Core.List.{List, [], ◌++◌, append_assoc}
use Rattle.std.proofs.Math.ListN.{length, length-take}
use Rattle.spec_format.specs.Bytes.{May, absent, is, bytes, decimal}
use Rattle.spec_format.specs.Dates.{date_text, printed_date}
use Rattle.spec_format.specs.Rooms.{Rooms, span_text, may_text, may_length, table_of}
use Rattle.spec_format.specs.Table.{Table}
use Rattle.spec_format.specs.Write.{padded, name_or, length_or, length_text, name_and_length, printed_name, molecule_text, topology_text, locus_text}
use Rattle.spec_format.specs.declared.Date.{Date}
use Rattle.spec_format.specs.declared.Span.{Span}
use Rattle.spec_format.specs.declared.Head.{Head}
use Rattle.write_locus_name.specs.Names.{chosen, printed_of}
use Rattle.judge_rooms.specs.Facts.{TextIn}
use Rattle.judge_rooms.specs.Parts.{reference_rooms}

abbrev pub or_untitled : May (List ℕ) → List ℕ
or_untitled absent = bytes "UNTITLED"
or_untitled (is t) = t

chosen_is : (store : List ℕ) (name accession : Option Span) → or_untitled (may_text store (chosen name accession)) ≡ name_or (may_text store name) (may_text store accession)
chosen_is store None None = refl
chosen_is store None (Some s) = refl
chosen_is store (Some s) accession = refl

pub chosen_in : (store : List ℕ) (name accession chose : Option Span) → chose ≡ chosen name accession → TextIn store name → TextIn store accession → TextIn store chose
chosen_in store None accession chose e a b = rw e b
chosen_in store (Some s) accession chose e a b = rw e a

-- the printed name beside the length n
unfoldable pub name_with : Bool → Bool → ℕ → Table → List ℕ
name_with truncate escape n t = printed_of truncate escape (decimal n) (name_or t.locus.name t.accession)

unfoldable pub line_start : Bool → Bool → ℕ → Table → List ℕ
line_start truncate escape n t = bytes "LOCUS       " ++ name_and_length (name_with truncate escape n t) (decimal n) ++ bytes " bp    "

unfoldable pub line_middle : Bool → May (List ℕ) → Bool → List ℕ
line_middle truncate molecule circular = padded 7 (molecule_text truncate molecule) ++ bytes " " ++ padded 8 (topology_text circular) ++ bytes " "

unfoldable pub line_end : List ℕ → Option Date → List ℕ
line_end division date = division ++ bytes " " ++ date_text (printed_date date) ++ bytes "\n"

unfoldable pub line_with : Bool → Bool → ℕ → Table → List ℕ
line_with truncate escape n t =
    line_start truncate escape n t ++ line_middle truncate t.locus.molecule t.locus.circular ++ line_end t.locus.division t.locus.date

pub name_with_lem :
    (truncate escape : Bool) (store : List ℕ) (h : Head) (n : ℕ) (chose : Option Span) → n ≡ length_or (may_length h.length) h.letters →
    chose ≡ chosen h.name h.accession → printed_of truncate escape (decimal n) (or_untitled (may_text store chose)) ≡
    name_with truncate escape (length_or (may_length h.length) h.letters) (table_of (reference_rooms store []) h)
unfolding name_with table_of
name_with_lem truncate escape store h n chose e f = rw (e, f, chosen_is store h.name h.accession)

pub start_with :
    (truncate escape : Bool) (store : List ℕ) (h : Head) (n : ℕ) (chose : Option Span) → n ≡ length_or (may_length h.length) h.letters →
    chose ≡ chosen h.name h.accession →
    bytes "LOCUS       " ++ name_and_length (printed_of truncate escape (decimal n) (or_untitled (may_text store chose))) (decimal n) ++ bytes " bp    " ≡
    line_start truncate escape (length_or (may_length h.length) h.letters) (table_of (reference_rooms store []) h)
unfolding line_start
start_with truncate escape store h n chose e f =
    ap (λ (w : List ℕ). bytes "LOCUS       " ++ name_and_length w (decimal n) ++ bytes " bp    ") (name_with_lem truncate escape store h n chose e f) ∙
    ap (λ (d : ℕ). bytes "LOCUS       " ++
    name_and_length (name_with truncate escape (length_or (may_length h.length) h.letters) (table_of (reference_rooms store []) h)) (decimal d) ++ bytes " bp    ") e

-- ---- of a table in rooms

in_a_row :
    (a n b m p t q d r e f : List ℕ) → (a ++ n ++ b) ++ (m ++ p ++ t ++ q) ++ (d ++ r ++ e ++ f) ≡ a ++ n ++ b ++ m ++ p ++ t ++ q ++ d ++ r ++ e ++ f
in_a_row a n b m p t q d r e f = simp append_assoc

module _ (r : Rooms) (h : Head) (inside : h.letters ≤ length r.letters) where
  length_is : decimal (length_or (may_length h.length) h.letters) ≡ length_text (table_of r h)
  unfolding length_text table_of
  length_is = let e : length (take h.letters r.letters) ≡ h.letters = simp length-take (omega arith) in rw e

  pub name_is :
      (truncate escape : Bool) → name_with truncate escape (length_or (may_length h.length) h.letters) (table_of (reference_rooms r.texts []) h) ≡
      printed_name truncate escape (table_of r h)
  unfolding name_with printed_name table_of
  name_is truncate escape = ap (λ (d : List ℕ). printed_of truncate escape d (name_or (table_of r h).locus.name (table_of r h).accession)) length_is

  pub line_is :
      (truncate escape : Bool) → line_with truncate escape (length_or (may_length h.length) h.letters) (table_of (reference_rooms r.texts []) h) ≡
      locus_text truncate escape (table_of r h)
  unfolding line_with line_start line_middle line_end locus_text table_of
  line_is truncate escape =
      rw (name_is truncate escape, length_is)
      (in_a_row (bytes "LOCUS       ") (name_and_length (printed_name truncate escape (table_of r h)) (length_text (table_of r h))) (bytes " bp    ")
      (padded 7 (molecule_text truncate (may_text r.texts h.molecule))) (bytes " ") (padded 8 (topology_text h.circular)) (bytes " ")
      (span_text r.texts h.division) (bytes " ") (date_text (printed_date h.date)) (bytes "\n"))
