-- Tables that the keeping writer takes, and records one after the other. The round trip of such is in proofs/RecordsBack.antt.
use Rattle.std.specs.Prelude.{ℕ, ◌+◌, ◌-◌, ◌<◌, Bool, true, false, ◌&&◌, ◌≡◌, length, drop, eqb, leb}
use native.Mathlib.Omega.{arith}
use Rattle.std.proofs.Common.{ap, ◌∙◌, length-append, le-leb, ne_eqb}
use mathlib.Core.List.{List, [], ◌∷◌, ◌++◌}
use Rattle.std.proofs.Math.Seq.{drop-append_seam}
use Rattle.spec_format.specs.Table.{Table}
use Rattle.spec_format.specs.Record.{Outcome, was_read, not_read, read_record, most, read_at}
use Rattle.spec_format.specs.Write.{locus_text, written}
use Rattle.spec_format.specs.WellFormed.{well_formed}
use Rattle.spec_format.specs.Rooms.{locations_read}
use Rattle.spec_format.specs.Keeping.{keeps}
use Rattle.spec_format.specs.declared.Unread.TheVariants as unread
use Rattle.spec_record_back.specs.LocusBack.{length_fits}

-- the keeping writer takes the table, whose location rows are those of its texts (else: 10) and whose length is one that a LOCUS line can give
abbrev pub keepable : ℕ → Bool → Bool → Table → Bool
keepable W truncate escape t = well_formed W truncate escape t && (keeps W truncate escape t && (locations_read t && length_fits t))

module _ (W : ℕ) (truncate escape : Bool) where
  pub written_some : (t : Table) (rest : List ℕ) → 0 < length (written W truncate escape t ++ rest)
  unfolding written locus_text
  written_some t rest = omega arith

pub at_steps :
    (s before x : List ℕ) (o : Outcome) → s ≡ before ++ x → 0 < length x → leb (length s) most ≡ true → read_record x ≡ o → read_at s (length before) ≡ o
unfolding read_at
at_steps s before x o p l m e =
    let n : length s ≡ length before + length x = ap length p ∙ length-append before x in
    let i : leb (length before) (length s) ≡ true = le-leb (length before) (length s) (omega arith) in
    let j : eqb (length before) (length s) ≡ false = ne_eqb (length before) (length s) (λ q. omega arith) in
    let d : drop (length before) s ≡ x = ap (drop (length before)) p ∙ drop-append_seam before x in
    rw (m, i, j, d) e

-- read from a place on, record after record, each from the place where the one before ended, until number 1 says that there is no more:
-- these are the tables
pub data Records (s : List ℕ) : ℕ → List Table → Type 0 where
  none : (at : ℕ) → read_at s at ≡ not_read unread.AtEnd → Records s at []
  more : (at : ℕ) (t : Table) (rest : List ℕ) (ts : List Table) → read_at s at ≡ was_read t rest → Records s (length s - length rest) ts → Records s at (t ∷ ts)
