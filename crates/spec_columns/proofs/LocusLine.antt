-- The written LOCUS line has the columns of the GenBank flat file, where the name has at most 16 bytes, the molecule type 6 and the division 3.
use Rattle.std.specs.Prelude.{ℕ, suc, ◌+◌, ◌-◌, ◌≤◌, Bool, true, false, ◌≡◌, List, [], ◌++◌, length}
use Rattle.std.proofs.Common.{arith, sym, ap, ◌∙◌, append_assoc}
use Rattle.std.proofs.Math.Path.{refl}
use Rattle.std.proofs.lemmas.List.{replicate-append-replicate}
use Rattle.spec_format.specs.Bytes.{bytes, spaces}
use Rattle.spec_format.specs.Dates.{date_text, printed_date}
use Rattle.spec_format.specs.Table.{Table}
use Rattle.spec_format.specs.Write.{padded, right_aligned, printed_name, length_text, molecule_text, topology_text, name_and_length, locus_text}
use Rattle.spec_public.specs.Public.{locus_tests, locus_columns}
use Rattle.spec_columns.specs.Tests.{both, same_as}
use Rattle.spec_columns.specs.Lengths.{count_most}
use Rattle.spec_columns.specs.Parts.{part, padded_length, right_length, full}
use Rattle.spec_columns.specs.LocusLine.{locus_values, line_of, molecule_parts, before_end, without_end}

-- ---- the line in its parts

three_spaces : (a b : ℕ) → spaces a ++ spaces 1 ++ spaces b ≡ spaces (a + 1 + b)
three_spaces a b = ap (λ (x : List ℕ). x ++ spaces b) (replicate-append-replicate {A = ℕ} a 1 32) ∙ replicate-append-replicate {A = ℕ} (a + 1) b 32

-- name and length: the name in 16 columns, a blank, the length in 11
name_parts : (n d : List ℕ) → length n ≤ 16 → length d ≤ 10 → name_and_length n d ≡ padded 16 n ++ spaces 1 ++ right_aligned 11 d
name_parts n d h g =
    let e : suc (27 - (length n + length d)) ≡ 16 - length n + 1 + (11 - length d) = omega arith in
    ap (λ (k : ℕ). n ++ spaces k ++ d) e ∙
    (ap (λ (x : List ℕ). n ++ x ++ d) (sym (three_spaces (16 - length n) (11 - length d))) ∙
    simp append_assoc)

topology_length : (c : Bool) → length (padded 8 (topology_text c)) ≡ 8
topology_length true = refl
topology_length false = refl

regroup :
    (a g m t c f : List ℕ) →
    a ++ g ++ bytes " bp    " ++ m ++ bytes " " ++ t ++ bytes " " ++ c ++ bytes " " ++ f ≡
    a ++ (g ++ (bytes " bp    " ++ ((m ++ bytes " ") ++ (t ++ (spaces 1 ++ (c ++ (spaces 1 ++ f)))))))
regroup a g m t c f = simp append_assoc

arranged :
    (a n d m t c f g m' : List ℕ) → g ≡ n ++ spaces 1 ++ d → m' ++ bytes " " ≡ m ++ spaces 2 →
    a ++ g ++ bytes " bp    " ++ m' ++ bytes " " ++ t ++ bytes " " ++ c ++ bytes " " ++ f ≡
    a ++ (n ++ (spaces 1 ++ (d ++ (spaces 1 ++ (bytes "bp" ++ (spaces 1 ++ (spaces 3 ++ (m ++ (spaces 2 ++ (t ++ (spaces 1 ++ (c ++ (spaces 1 ++ f)))))))))))))
arranged a n d m t c f g m' p q = regroup a g m' t c f ∙ rw (p, q) (simp append_assoc)

-- each part in its columns
module _
    (line name count molecule topology division date : List ℕ)
    (is : line ≡ bytes "LOCUS       " ++ (padded 16 name ++ (spaces 1 ++ (right_aligned 11 count ++ (spaces 1 ++ (bytes "bp" ++ (spaces 1 ++
    (spaces 3 ++ (padded 6 molecule ++ (spaces 2 ++ (padded 8 topology ++ (spaces 1 ++ (division ++ (spaces 1 ++ date))))))))))))))
    (l₁ : length name ≤ 16) (l₂ : length count ≤ 10) (l₃ : length molecule ≤ 6) (l₄ : length (padded 8 topology) ≡ 8) (l₅ : length division ≡ 3) where
  in-columns :
      locus_columns
      (record { name = name; count = count; strand = []; molecule = molecule; topology = topology; division = division; date = date }) line ≡ true
  unfolding locus_tests
  in-columns =
      let p₁ = part line 0 12 (bytes "LOCUS       ") _ is refl in
      let p₂ = part line 12 16 (padded 16 name) _ p₁.next (padded_length 16 name l₁) in
      let p₃ = part line 28 1 (spaces 1) _ p₂.next refl in
      let p₄ = part line 29 11 (right_aligned 11 count) _ p₃.next (right_length 11 count (omega arith)) in
      let p₅ = part line 40 1 (spaces 1) _ p₄.next refl in
      let p₆ = part line 41 2 (bytes "bp") _ p₅.next refl in
      let p₇ = part line 43 1 (spaces 1) _ p₆.next refl in
      let p₈ = part line 44 3 (spaces 3) _ p₇.next refl in
      let p₉ = part line 47 6 (padded 6 molecule) _ p₈.next (padded_length 6 molecule l₃) in
      let q₁ = part line 53 2 (spaces 2) _ p₉.next refl in
      let q₂ = part line 55 8 (padded 8 topology) _ q₁.next l₄ in
      let q₃ = part line 63 1 (spaces 1) _ q₂.next refl in
      let q₄ = part line 64 3 division _ q₃.next l₅ in
      let q₅ = part line 67 1 (spaces 1) date q₄.next refl in
      both _ _ (same_as _ _ p₁.here) (both _ _ (same_as _ _ p₂.here) (both _ _ (same_as _ _ p₃.here) (both _ _ (same_as _ _ p₄.here)
      (both _ _ (same_as _ _ p₅.here) (both _ _ (same_as _ _ p₆.here) (both _ _ (same_as _ _ p₇.here) (both _ _ (same_as _ _ p₈.here)
      (both _ _ (same_as _ _ p₉.here) (both _ _ (same_as _ _ q₁.here) (both _ _ (same_as _ _ q₂.here) (both _ _ (same_as _ _ q₃.here)
      (both _ _ (same_as _ _ (q₄.here ∙ full 3 division l₅)) (both _ _ (same_as _ _ q₅.here) (both _ _ (same_as _ _ q₅.next) refl))))))))))))))

-- and that line has each value of the table in the columns of LOCUS
pub locus_columns_lem :
    (truncate escape : Bool) (t : Table) → length (printed_name truncate escape t) ≤ 16 → length (molecule_text truncate t.locus.molecule) ≤ 6 →
    length t.locus.division ≡ 3 → locus_columns (locus_values truncate escape t) (line_of (locus_text truncate escape t)) ≡ true
unfolding locus_text
locus_columns_lem truncate escape t l₁ l₂ l₃ =
    let name : List ℕ = printed_name truncate escape t in
    let count : List ℕ = length_text t in
    let molecule : List ℕ = molecule_text truncate t.locus.molecule in
    let topology : List ℕ = topology_text t.locus.circular in
    let division : List ℕ = t.locus.division in
    let date : List ℕ = date_text (printed_date t.locus.date) in
    let e =
    arranged (bytes "LOCUS       ") (padded 16 name) (right_aligned 11 count) (padded 6 molecule) (padded 8 topology) division date (name_and_length name count)
    (padded 7 molecule) (name_parts name count l₁ (count_most t)) (molecule_parts molecule l₂) in
    in-columns (line_of (locus_text truncate escape t)) name count molecule topology division date (without_end (before_end truncate escape t) ∙ e) l₁ (count_most t) l₂
    (topology_length t.locus.circular) l₃
