-- What may follow a record that was written. The round trip is in proofs/RecordBack.antt.
use Rattle.std.specs.Prelude.{ℕ, Bool, true, false, ◌≡◌, refl, List, []}
use Rattle.spec_format.specs.Readers.{Ans, got, no, cut, line_end, while_fits}
use Rattle.spec_loops.specs.Loops.{tries_no, tries_cut}
use Rattle.spec_format.specs.Impossible.{impossible}

-- ---- from ORIGIN to the record's end

-- a line end stands there
abbrev pub line_ends : List ℕ → Bool
line_ends s = got_lem (line_end s)
  where
    got_lem : Ans (List ℕ) → Bool
    got_lem (got l r) = true
    got_lem no = false
    got_lem cut = false

pub end_taken : (rest : List ℕ) → line_ends rest ≡ false → while_fits line_end rest ≡ got [] rest
end_taken rest h = go (line_end rest) refl
  where
    go : (o : Ans (List ℕ)) → line_end rest ≡ o → while_fits line_end rest ≡ got [] rest
    go (got l r) e = impossible cc
    go no e = tries_no line_end rest e
    go cut e = tries_cut line_end rest e
