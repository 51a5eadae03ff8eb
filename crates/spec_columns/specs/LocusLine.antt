-- The written LOCUS line: its values, its molecule type, its date. That each value is in its columns: proofs/LocusLine.antt.
use Rattle.std.specs.Prelude.{ℕ, ◌+◌, ◌-◌, ◌≤◌, Bool, true, ◌≡◌, List, [], ◌++◌, length, take}
use Rattle.std.proofs.Common.{arith, sym, ap, ◌∙◌, append_assoc, length-append, take_at}
use Rattle.std.proofs.lemmas.List.{replicate-append-replicate}
use Rattle.spec_format.specs.Bytes.{bytes, spaces}
use Rattle.spec_format.specs.Dates.{date_text, printed_date}
use Rattle.spec_format.specs.Table.{Table}
use Rattle.spec_format.specs.Write.{padded, printed_name, length_text, molecule_text, topology_text, name_and_length, locus_text}
use Rattle.spec_format.specs.WellFormed.{date_fine, locus_fine, well_formed}
use Rattle.spec_public.specs.Public.{LocusValues}
use Rattle.spec_columns.specs.Tests.{and_left, and_right}
use Rattle.spec_columns.specs.Lengths.{date_length}

-- what the table has for the line's columns; the writer has no strand apart from the molecule type
abbrev pub locus_values : Bool → Bool → Table → LocusValues
locus_values truncate escape t =
    record {
      name = printed_name truncate escape t;
      count = length_text t;
      strand = [];
      molecule = molecule_text truncate t.locus.molecule;
      topology = topology_text t.locus.circular;
      division = t.locus.division;
      date = date_text (printed_date t.locus.date);
    }

-- a text without its last byte, which is its LF
abbrev pub line_of : List ℕ → List ℕ
line_of text = take (length text - 1) text

-- ---- the line in its parts

-- the molecule type in 6 columns and two blanks
pub molecule_parts : (m : List ℕ) → length m ≤ 6 → padded 7 m ++ bytes " " ≡ padded 6 m ++ spaces 2
molecule_parts m h =
    let e : 7 - length m ≡ 6 - length m + 1 = omega arith in
    ap (λ (k : ℕ). m ++ spaces k ++ bytes " ") e ∙
    (ap (λ (x : List ℕ). m ++ x ++ bytes " ") (sym (replicate-append-replicate {A = ℕ} (6 - length m) 1 32)) ∙
    simp append_assoc)

-- all that is written before the LF
abbrev pub before_end : Bool → Bool → Table → List ℕ
before_end truncate escape t =
    bytes "LOCUS       " ++ name_and_length (printed_name truncate escape t) (length_text t) ++ bytes " bp    " ++
    padded 7 (molecule_text truncate t.locus.molecule) ++ bytes " " ++ padded 8 (topology_text t.locus.circular) ++ bytes " " ++
    t.locus.division ++ bytes " " ++ date_text (printed_date t.locus.date)

pub without_end : (x : List ℕ) → line_of (x ++ bytes "\n") ≡ x
without_end x = let e : length x ≡ length (x ++ bytes "\n") - 1 = simp length-append (omega arith) in take_at x (bytes "\n") _ e

-- a written record begins with a line and its LF (its values have none: number 11 asks for bytes 32 to 126)
pub locus_line_lem : (truncate escape : Bool) (t : Table) → locus_text truncate escape t ≡ line_of (locus_text truncate escape t) ++ bytes "\n"
unfolding locus_text
locus_line_lem truncate escape t = ap (λ (x : List ℕ). x ++ bytes "\n") (sym (without_end (before_end truncate escape t)))

-- the date's test among those of number 11
date_fine_lem : (W : ℕ) (truncate escape : Bool) (t : Table) → well_formed W truncate escape t ≡ true → date_fine t.locus.date ≡ true
unfolding well_formed locus_fine
date_fine_lem W truncate escape t e = search (and_left, and_right)

-- the date from column 69 on has eleven bytes, so that it ends in column 79
pub date_columns : (W : ℕ) (truncate escape : Bool) (t : Table) → well_formed W truncate escape t ≡ true → length (locus_values truncate escape t).date ≡ 11
date_columns W truncate escape t h = date_length t.locus.date (date_fine_lem W truncate escape t h)
