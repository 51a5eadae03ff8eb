-- How long the LOCUS line of a table in rooms can be.
use Rattle.std.specs.Prelude.{◌≡◌, ℕ, suc, ◌+◌, ◌-◌, ◌*◌, ◌≤◌, Bool, true, false, ◌&&◌, List, [], ◌++◌, length, take, ltb, Option, Some, None}
use Rattle.std.proofs.Common.{arith, lt_of_not-le, length-append, length-take, length-drop}
use Rattle.std.proofs.Math.Decide.{dec_le}
use Rattle.std.proofs.lemmas.List.{length-replicate}
use Rattle.spec_format.specs.Bytes.{pick, bytes, spaces, decimal}
use Rattle.spec_format.specs.Dates.{month_name, date_text, printed_date}
use Rattle.spec_format.specs.Rooms.{Rooms, span_text, may_text, table_of}
use Rattle.spec_format.specs.Write.{words, joined, padded, name_or, length_or, name_and_length, truncated, escaped_name, molecule_text, topology_text, printed_name, length_text, locus_text}
use Rattle.spec_format.specs.declared.Date.{Date}
use Rattle.spec_format.specs.declared.Head.{Head}
use Rattle.spec_format.specs.declared.Span.{Span}
use Rattle.write_decimal.specs.Decimal.{length_decimal}
use Rattle.write_locus_words.specs.Words.{joined_length}
use Rattle.write_locus_parts.specs.Locus.{month_is, month_none}

escaped_length : (on : Bool) (name : List ℕ) → length (escaped_name on name) ≤ length name
escaped_length on name = go (on && ltb 1 (length (words name)))
  where
    go : (b : Bool) → length (pick b (joined (words name)) name) ≤ length name
    go true = joined_length name
    go false = omega arith

truncated_length : (on : Bool) (n : ℕ) (name : List ℕ) → length (truncated on n name) ≤ length name
truncated_length on n name = go (on && ltb 28 (length name + 1 + n))
  where
    go : (b : Bool) → length (pick b (take (27 - n) name) name) ≤ length name
    go true = simp length-take (omega arith)
    go false = omega arith

span_length : (store : List ℕ) (s : Span) → length (span_text store s) ≤ length store
span_length store s = simp (length-take, length-drop) (omega arith)

name_length : (store : List ℕ) (name accession : Option Span) → length (name_or (may_text store name) (may_text store accession)) ≤ length store + 8
name_length store None None = omega arith
name_length store None (Some s) = omega (arith, span_length store s)
name_length store (Some s) accession = omega (arith, span_length store s)

columns_length : (name : List ℕ) (n : ℕ) → length (name_and_length name (decimal n)) ≤ length name + 38
columns_length name n =
    omega (
      arith,
      length-append (name ++ spaces (suc (27 - (length name + length (decimal n))))) (decimal n),
      length-append name (spaces (suc (27 - (length name + length (decimal n))))),
      length-replicate {A = ℕ} (suc (27 - (length name + length (decimal n)))) 32,
      length_decimal n,
    )

padded_length : (n : ℕ) (w : List ℕ) → length (padded n w) ≤ length w + n
padded_length n w = omega (arith, length-append w (spaces (n - length w)), length-replicate {A = ℕ} (n - length w) 32)

molecule_length : (truncate : Bool) (store : List ℕ) (m : Option Span) → length (molecule_text truncate (may_text store m)) ≤ length store
molecule_length truncate store None = omega arith
molecule_length truncate store (Some s) = go (truncate && ltb 7 (length (span_text store s)))
  where
    go : (b : Bool) → length (pick b [] (span_text store s)) ≤ length store
    go true = omega arith
    go false = span_length store s

topology_length : (circular : Bool) → length (topology_text circular) ≤ 8
topology_length true = omega arith
topology_length false = omega arith

month_length : (m : ℕ) → length (month_name m) ≤ 3
month_length m =
    elim (dec_le m 12) [
      | yes h ↦ rw (← (month_is m h)) (simp length-take (omega arith))
      | no h ↦ rw (← (month_none m (lt_of_not-le h))) (omega arith)
    ]

date_length : (d : Date) → length (date_text d) ≤ 11
unfolding date_text
date_length d = simp length-append (omega (arith, month_length d.month))

-- the printed name of a table in rooms
printed_length : (truncate escape : Bool) (r : Rooms) (h : Head) → length (printed_name truncate escape (table_of r h)) ≤ length r.texts + 8
unfolding printed_name table_of
printed_length truncate escape r h =
    omega (
      arith,
      escaped_length escape (truncated truncate (length (length_text (table_of r h))) (name_or (may_text r.texts h.name) (may_text r.texts h.accession))),
      truncated_length truncate (length (length_text (table_of r h))) (name_or (may_text r.texts h.name) (may_text r.texts h.accession)),
      name_length r.texts h.name h.accession,
    )

row_length :
    (a n b m p t q d r e f : List ℕ) → length (a ++ n ++ b ++ m ++ p ++ t ++ q ++ d ++ r ++ e ++ f) ≡
    length a + length n + length b + length m + length p + length t + length q + length d + length r + length e + length f
row_length a n b m p t q d r e f = simp length-append

pub locus_length : (truncate escape : Bool) (r : Rooms) (h : Head) → length (locus_text truncate escape (table_of r h)) ≤ 3 * length r.texts + 200
unfolding locus_text length_text table_of
locus_length truncate escape r h =
    omega (
      arith,
      row_length (bytes "LOCUS       ") (name_and_length (printed_name truncate escape (table_of r h)) (length_text (table_of r h))) (bytes " bp    ")
          (padded 7 (molecule_text truncate (may_text r.texts h.molecule))) (bytes " ") (padded 8 (topology_text h.circular)) (bytes " ")
          (span_text r.texts h.division) (bytes " ") (date_text (printed_date h.date)) (bytes "\n"),
      columns_length (printed_name truncate escape (table_of r h)) (length_or (table_of r h).locus.length (length (table_of r h).letters)),
      printed_length truncate escape r h,
      padded_length 7 (molecule_text truncate (may_text r.texts h.molecule)),
      molecule_length truncate r.texts h.molecule,
      padded_length 8 (topology_text h.circular),
      topology_length h.circular,
      span_length r.texts h.division,
      date_length (printed_date h.date),
    )
