-- A LOCUS line with the public columns: its cells, and values that are such as document 01 takes. It is read as these values: proofs/LocusRead.antt.
use Rattle.std.specs.Prelude.{ℕ, ◌+◌, ◌-◌, true, ◌≡◌, List, [], ◌∷◌, ◌++◌, length, leb, Some}
use Rattle.spec_format.specs.Bytes.{May, absent, is, bytes, spaces, some, all, same, among, visible, digit, but, number}
use Rattle.spec_format.specs.Dates.{made, is_date, date_text}
use Rattle.spec_format.specs.Table.{Locus}
use Rattle.spec_format.specs.declared.Date.{Date}
use Rattle.spec_public.specs.Public.{LocusValues}

-- the public words for the strands, which may also be missing
abbrev pub strands : List (List ℕ)
strands = [] ∷ bytes "ss-" ∷ bytes "ds-" ∷ bytes "ms-" ∷ []

-- "name without `:`, length of 1 to 10 digits up to 4,294,967,295, .. molecule type (may be missing), `linear` or `circular`, division, date";
-- "All are bytes 33 to 126". The molecule may be empty
pub record Tidy (v : LocusValues) (d : Date) : Type 0 where
  pub name_some : some v.name ≡ true
  pub name_seen : all visible v.name ≡ true
  pub name_colonless : all (but 58) v.name ≡ true
  pub count_some : some v.count ≡ true
  pub count_digits : all digit v.count ≡ true
  pub count_ten : leb (length v.count) 10 ≡ true
  pub count_fits : leb (number 0 v.count) 4294967295 ≡ true
  pub strand : among v.strand strands ≡ true
  pub molecule : all visible v.molecule ≡ true
  pub topology : among v.topology (bytes "linear" ∷ bytes "circular" ∷ []) ≡ true
  pub division_some : some v.division ≡ true
  pub division_seen : all visible v.division ≡ true
  pub date : v.date ≡ date_text d
  pub date_range : is_date (made d.day d.month d.year) ≡ true

-- absent where there is nothing
abbrev pub if_some : List ℕ → May (List ℕ)
if_some [] = absent
if_some (b ∷ t) = is (b ∷ t)

-- strand and molecule are one molecule type
abbrev pub values_of : LocusValues → Date → Locus
values_of v d =
    record {
      name = is v.name;
      length = is (number 0 v.count);
      molecule = if_some (v.strand ++ v.molecule);
      circular = same v.topology (bytes "circular");
      division = v.division;
      date = Some d;
    }

-- ---- the line's cells

abbrev pub cells : LocusValues → List ℕ
cells v =
    bytes "LOCUS       " ++
    ((v.name ++ spaces (16 - length v.name)) ++
    (spaces 1 ++
    ((spaces (11 - length v.count) ++ v.count) ++
    (spaces 1 ++
    (bytes "bp" ++
    (spaces 1 ++
    ((v.strand ++ spaces (3 - length v.strand)) ++
    ((v.molecule ++ spaces (6 - length v.molecule)) ++
    (spaces 2 ++
    ((v.topology ++ spaces (8 - length v.topology)) ++
    (spaces 1 ++
    ((v.division ++ spaces (3 - length v.division)) ++
    (spaces 1 ++ v.date)))))))))))))
