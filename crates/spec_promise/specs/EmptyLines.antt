-- What follows a record's `//`: the reader takes every empty line there, and nothing else.
use Rattle.std.specs.Prelude.{ℕ, Bool, true, false, ◌≡◌, refl, List, [], ◌∷◌, ◌++◌, length, leb}
use Rattle.std.proofs.Common.{◌∙◌, append_assoc}
use Rattle.spec_format.specs.Bytes.{bytes, each}
use Rattle.spec_format.specs.Readers.{got, tag, line_end, while_fits}
use Rattle.spec_format.specs.Table.{Table}
use Rattle.spec_format.specs.Record.{was_read, most, slashes_at, read_at}
use Rattle.spec_format.specs.Write.{written}
use Rattle.spec_format.specs.WellFormed.{width_fine, well_formed}
use Rattle.spec_format.specs.Keeping.{keeps}
use Rattle.spec_format.specs.Rooms.{locations_read}
use Rattle.spec_loops.proofs.Loops.{tries_more}
use Rattle.spec_loops.proofs.Shrinks.{line_end_small}
use Rattle.spec_record_back.specs.LocusBack.{length_fits}
use Rattle.spec_record_back.specs.RecordBack.{line_ends, end_taken}
use Rattle.spec_record_back.proofs.RecordBack.{kept_then}
use Rattle.spec_record_back.specs.RecordsBack.{written_some, at_steps}

-- an empty line is a line end alone, LF or CR LF
pub data EmptyLine : Type 0 where
  lf : EmptyLine
  crlf : EmptyLine

abbrev pub end_bytes : EmptyLine → List ℕ
end_bytes lf = 10 ∷ []
end_bytes crlf = 13 ∷ 10 ∷ []

-- what is read of them: no bytes of each
abbrev nothings : List EmptyLine → List (List ℕ)
nothings [] = []
nothings (e ∷ es) = [] ∷ nothings es

one_taken : (e : EmptyLine) (s : List ℕ) → line_end (end_bytes e ++ s) ≡ got [] s
unfolding line_end
one_taken lf s = refl
one_taken crlf s = refl

all_taken : (es : List EmptyLine) (rest : List ℕ) → line_ends rest ≡ false → while_fits line_end (each end_bytes es ++ rest) ≡ got (nothings es) rest
all_taken [] rest h = end_taken rest h
all_taken (e ∷ es) rest h =
    rw (
      append_assoc (end_bytes e) (each end_bytes es) rest,
      tries_more line_end line_end_small (end_bytes e ++ (each end_bytes es ++ rest)) [] (each end_bytes es ++ rest) (one_taken e (each end_bytes es ++ rest)),
      all_taken es rest h,
    )

slashes_back : (t : Table) (es : List EmptyLine) (rest : List ℕ) → line_ends rest ≡ false → slashes_at t (bytes "//\n" ++ (each end_bytes es ++ rest)) ≡ was_read t rest
unfolding tag
slashes_back t es rest h = rw (all_taken (lf ∷ es) rest h)

pub lines_inside :
    (W : ℕ) (truncate escape : Bool) (before : List ℕ) (t : Table) (es : List EmptyLine) (rest : List ℕ) → width_fine W ≡ true →
    well_formed W truncate escape t ≡ true → keeps W truncate escape t ≡ true → locations_read t ≡ true → length_fits t ≡ true → line_ends rest ≡ false →
    leb (length (before ++ (written W truncate escape t ++ (each end_bytes es ++ rest)))) most ≡ true →
    read_at (before ++ (written W truncate escape t ++ (each end_bytes es ++ rest))) (length before) ≡ was_read t rest
lines_inside W truncate escape before t es rest w f k p n e m =
    let y : List ℕ = each end_bytes es ++ rest in
    at_steps (before ++ (written W truncate escape t ++ y)) before (written W truncate escape t ++ y) (was_read t rest) refl (written_some W truncate escape t y) m
    (kept_then W truncate escape t y w f k p n ∙ slashes_back t es rest e)
