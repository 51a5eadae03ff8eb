-- A location or a bare value over lines that go on is read as their join.
use Rattle.std.specs.Prelude.{ℕ, suc, ◌+◌, ◌-◌, true, ◌≡◌, refl, List, [], ◌∷◌, ◌++◌}
use Rattle.std.proofs.Common.{append_assoc, append-nil}
use Rattle.spec_format.specs.Bytes.{starts, all, each, concat, but}
use Rattle.spec_format.specs.Readers.{got}
use Rattle.spec_format.specs.Features.{bare}
use Rattle.spec_public.specs.Public.{continued}
use Rattle.spec_texts_back.specs.Tests.{and_left, and_right, all_head, all_tail}
use Rattle.spec_texts_back.specs.Pieces.{no_end}
use Rattle.spec_texts_back.specs.BareBack.{ends, Lines, lines_bare, lines_more}
use Rattle.spec_texts_back.proofs.BareBack.{lines_one}
use Rattle.spec_columns_back.specs.Further.{ended, further, furthers_are, further_first, goes_on}

-- ---- a location or a bare value

goes_starts : (t x : List ℕ) → goes_on t ≡ true → starts (but 47) (t ++ 10 ∷ x) ≡ true
goes_starts [] x h = refl
goes_starts (b ∷ t) x h = search (and_left)

goes_line : (t : List ℕ) → goes_on t ≡ true → all no_end t ≡ true
goes_line t h = search (and_right)

module _ (n : ℕ) (rest : List ℕ) (fine : ends n rest ≡ true) where
  lines_read : (l : List ℕ) (ms : List (List ℕ)) → all no_end l ≡ true → all goes_on ms ≡ true → Lines n (l ++ 10 ∷ (each (further n) ms ++ rest)) (l ++ concat ms) rest
  lines_read l [] h k = rw (append-nil l) (lines_one n rest l fine h)
  lines_read l (m ∷ ms) h k =
      let g : goes_on m ≡ true = all_head goes_on m ms k in
      let x : List ℕ = m ++ 10 ∷ (each (further n) ms ++ rest) in
      rw (further_first n m ms rest)
      (lines_more n rest l (m ++ concat ms) x h (goes_starts m _ g) (lines_read m ms (goes_line m g) (all_tail goes_on m ms k)))

  -- LINES THAT GO ON are read as their join, up to what may follow them
  pub bare_read :
      (l : List ℕ) (ms lines : List (List ℕ)) → continued (suc n) ms lines ≡ true → all no_end l ≡ true → all goes_on ms ≡ true →
      bare n (ended l ++ (each ended lines ++ rest)) ≡ got (l ++ concat ms) rest
  bare_read l ms lines c h k =
      rw (append_assoc l (10 ∷ []) (each ended lines ++ rest), furthers_are n ms lines c)
      (lines_bare n rest (l ++ 10 ∷ (each (further n) ms ++ rest)) (l ++ concat ms) (lines_read l ms h k))
