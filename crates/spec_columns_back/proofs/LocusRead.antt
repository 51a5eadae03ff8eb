-- EVERY LOCUS LINE with the public columns, whose values are such as document 01 takes, is read as these values.
use Rattle.std.specs.Prelude.{ℕ, suc, ◌+◌, ◌-◌, true, false, ◌≡◌, refl, List, [], ◌∷◌, ◌++◌, length}
use Rattle.std.proofs.Common.{arith, ap, ◌∙◌, append_assoc}
use Rattle.spec_format.specs.Bytes.{bytes, spaces, all, same, among, visible, digit}
use Rattle.spec_format.specs.Readers.{got}
use Rattle.spec_format.specs.Locus.{locus}
use Rattle.spec_format.specs.Write.{molecule_text, topology_text}
use Rattle.spec_format.specs.declared.Date.{Date}
use Rattle.spec_public.specs.Public.{LocusValues, locus_tests, locus_columns}
use Rattle.spec_texts_back.specs.Tests.{all_append, all_imp}
use Rattle.spec_record_back.specs.Decimals.{date_back}
use Rattle.spec_record_back.specs.FeatureBack.{spaces_last}
use Rattle.spec_record_back.specs.LocusBack.{Gaps, line_text, Parts, token_fine, digit_visible, date_some, values_back}
use Rattle.spec_columns_back.specs.Cells.{same_is, cell, last_cell, spaces_join, all_among}
use Rattle.spec_columns_back.specs.LocusRead.{strands, Tidy, if_some, values_of, cells}

-- ---- the line's cells

line_cells : (v : LocusValues) (line : List ℕ) → locus_columns v line ≡ true → line ≡ cells v
unfolding locus_tests
line_cells v line h =
    cell line 0 12 (bytes "LOCUS       ") _ _ h (λ h.
    cell line 12 16 (v.name ++ spaces (16 - length v.name)) _ _ h (λ h.
    cell line 28 1 (spaces 1) _ _ h (λ h.
    cell line 29 11 (spaces (11 - length v.count) ++ v.count) _ _ h (λ h.
    cell line 40 1 (spaces 1) _ _ h (λ h.
    cell line 41 2 (bytes "bp") _ _ h (λ h.
    cell line 43 1 (spaces 1) _ _ h (λ h.
    cell line 44 3 (v.strand ++ spaces (3 - length v.strand)) _ _ h (λ h.
    cell line 47 6 (v.molecule ++ spaces (6 - length v.molecule)) _ _ h (λ h.
    cell line 53 2 (spaces 2) _ _ h (λ h.
    cell line 55 8 (v.topology ++ spaces (8 - length v.topology)) _ _ h (λ h.
    cell line 63 1 (spaces 1) _ _ h (λ h.
    cell line 64 3 (v.division ++ spaces (3 - length v.division)) _ _ h (λ h.
    cell line 67 1 (spaces 1) _ _ h (λ h.
    last_cell line 68 v.date h))))))))))))))

-- ---- the gaps between the values

gaps_of : LocusValues → Gaps
gaps_of v =
    record {
      name = 16 - length v.name + (11 - length v.count);
      unit = 3 - length v.strand;
      molecule = suc (6 - length v.molecule);
      topology = 8 - length v.topology;
      division = 3 - length v.division;
    }

name_gap : (m n : ℕ) (x : List ℕ) → spaces m ++ 32 ∷ (spaces n ++ x) ≡ spaces (suc (m + n)) ++ x
name_gap m n x =
    let e : suc m + n ≡ suc (m + n) = omega arith in
    spaces_last m (spaces n ++ x) ∙ spaces_join (suc m) n x ∙ ap (λ (k : ℕ). spaces k ++ x) e

-- a strand fills its three columns, or they are blank
strand_word : (s : List ℕ) → among s strands ≡ true → 32 ∷ (s ++ spaces (3 - length s)) ≡ spaces (3 - length s) ++ 32 ∷ s
strand_word s h = same_is _ _ (all_among (λ s. same (32 ∷ (s ++ spaces (3 - length s))) (spaces (3 - length s) ++ 32 ∷ s)) strands s refl h)

strand_gap : (s x : List ℕ) → among s strands ≡ true → 32 ∷ ((s ++ spaces (3 - length s)) ++ x) ≡ spaces (3 - length s) ++ 32 ∷ (s ++ x)
strand_gap s x h = ap (λ (y : List ℕ). y ++ x) (strand_word s h) ∙ append_assoc (spaces (3 - length s)) (32 ∷ s) x

regroup :
    (l n a s b c u t m e o f d g date : List ℕ) →
    l ++ ((n ++ a) ++ (s ++ ((b ++ c) ++ (s ++ (u ++ (s ++ (t ++ ((m ++ e) ++ (s ++ s ++ ((o ++ f) ++ (s ++ ((d ++ g) ++ (s ++ date))))))))))))) ≡
    l ++ (n ++ (a ++ (s ++ (b ++ (c ++ (s ++ (u ++ (s ++ (t ++ (m ++ (e ++ (s ++ (s ++ (o ++ (f ++ (s ++ (d ++ (g ++ (s ++ date)))))))))))))))))))
regroup l n a s b c u t m e o f d g date = simp append_assoc

some_text : (t : List ℕ) → molecule_text false (if_some t) ≡ t
some_text [] = refl
some_text (b ∷ t) = refl

topology_word : (t : List ℕ) → among t (bytes "linear" ∷ bytes "circular" ∷ []) ≡ true → topology_text (same t (bytes "circular")) ≡ t
topology_word t h =
    same_is _ t (all_among (λ t. same (topology_text (same t (bytes "circular"))) t) (bytes "linear" ∷ bytes "circular" ∷ []) t refl h)

cells_text :
    (v : LocusValues) → among v.strand strands ≡ true → among v.topology (bytes "linear" ∷ bytes "circular" ∷ []) ≡ true →
    cells v ≡
    bytes "LOCUS       " ++
    line_text (gaps_of v) v.name v.count (if_some (v.strand ++ v.molecule)) (same v.topology (bytes "circular")) v.division v.date
unfolding line_text gaps_of
cells_text v h k =
    let x : List ℕ = v.topology ++ (spaces (8 - length v.topology) ++ 32 ∷ (v.division ++ (spaces (3 - length v.division) ++ 32 ∷ v.date))) in
    let y : List ℕ = v.molecule ++ (spaces (6 - length v.molecule) ++ 32 ∷ 32 ∷ x) in
    let z : List ℕ = v.count ++ 32 ∷ (bytes "bp" ++ 32 ∷ ((v.strand ++ spaces (3 - length v.strand)) ++ y)) in
    regroup (bytes "LOCUS       ") v.name (spaces (16 - length v.name)) (32 ∷ []) (spaces (11 - length v.count)) v.count (bytes "bp")
    (v.strand ++ spaces (3 - length v.strand)) v.molecule (spaces (6 - length v.molecule)) v.topology (spaces (8 - length v.topology))
    v.division (spaces (3 - length v.division)) v.date ∙
    rw (
      some_text (v.strand ++ v.molecule),
      topology_word v.topology k,
      name_gap (16 - length v.name) (11 - length v.count) z,
      strand_gap v.strand y h,
      spaces_last (6 - length v.molecule) (32 ∷ x),
      append_assoc v.strand v.molecule (spaces (suc (6 - length v.molecule)) ++ 32 ∷ x),
    )

-- ---- the values

some_fine : (t : List ℕ) → all visible t ≡ true → token_fine (if_some t) ≡ true
some_fine [] h = refl
some_fine (b ∷ t) h = h

parts : (v : LocusValues) (d : Date) → Tidy v d → Parts v.name v.count v.division v.date (if_some (v.strand ++ v.molecule))
parts v d t =
    record {
      name₁ = t.name_some;
      name₂ = t.name_seen;
      count₁ = t.count_some;
      count₂ = all_imp digit visible digit_visible v.count t.count_digits;
      molecule =
          some_fine (v.strand ++ v.molecule)
          (all_append visible v.strand v.molecule (all_among (all visible) strands v.strand refl t.strand) t.molecule);
      division₁ = t.division_some;
      division₂ = t.division_seen;
      date₁ = rw t.date (date_some d);
      date₂ = rw t.date (date_back d t.date_range).seen;
    }

-- A LOCUS LINE WITH THE PUBLIC COLUMNS is read as its values
pub locus_read :
    (v : LocusValues) (d : Date) (line rest : List ℕ) → locus_columns v line ≡ true → Tidy v d → locus (line ++ 10 ∷ rest) ≡ got (values_of v d) rest
locus_read v d line rest h t =
    let x : List ℕ =
    line_text (gaps_of v) v.name v.count (if_some (v.strand ++ v.molecule)) (same v.topology (bytes "circular")) v.division v.date in
    let e : line ≡ bytes "LOCUS       " ++ x = line_cells v line h ∙ cells_text v t.strand t.topology in
    rw (e, append_assoc (bytes "LOCUS       ") x (10 ∷ rest))
    (values_back (gaps_of v) v.name v.count v.division v.date (if_some (v.strand ++ v.molecule)) (same v.topology (bytes "circular")) d rest
    (parts v d t) t.name_colonless (record { digits = t.count_digits; ten = t.count_ten; fits = t.count_fits })
    (rw t.date (date_back d t.date_range).read))
