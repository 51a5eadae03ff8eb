-- A qualifier at column 22 with a bare value over lines is read as its key and value.
use Rattle.std.specs.Prelude.{ℕ, true, not, ◌≡◌, refl, List, [], ◌∷◌, ◌++◌}
use Rattle.std.proofs.Common.{append_assoc}
use Rattle.spec_format.specs.Bytes.{is, bytes, spaces, starts, all, each, concat, quote, but}
use Rattle.spec_format.specs.Utf8.{utf8}
use Rattle.spec_format.specs.Readers.{got}
use Rattle.spec_format.specs.Features.{qualifier}
use Rattle.spec_public.specs.Public.{qualifier_columns, continued}
use Rattle.spec_texts_back.specs.Pieces.{no_end}
use Rattle.spec_texts_back.specs.BareBack.{ends}
use Rattle.spec_feature_names.specs.Taken.{key_taken}
use Rattle.spec_record_back.specs.QualifierBack.{pair_value, value_bare}
use Rattle.spec_columns_back.specs.Further.{ended, goes_on}
use Rattle.spec_columns_back.proofs.Further.{bare_read}
use Rattle.spec_columns_back.specs.QualifierRead.{line_is, key_read}

unquoted : (l x : List ℕ) → not (starts quote l) ≡ true → starts (but 34) ((l ++ 10 ∷ []) ++ x) ≡ true
unquoted [] x h = refl
unquoted (b ∷ l) x h = h

-- A BARE VALUE, over lines, is their join
pub pair_read :
    (k l line : List ℕ) (ms lines : List (List ℕ)) (rest : List ℕ) → qualifier_columns (bytes "/" ++ (k ++ (bytes "=" ++ l))) line ≡ true →
    continued 22 ms lines ≡ true → key_taken k ≡ true → not (starts quote l) ≡ true → all no_end l ≡ true → all goes_on ms ≡ true →
    utf8 (l ++ concat ms) ≡ true → ends 21 rest ≡ true →
    qualifier 21 (each ended (line ∷ lines) ++ rest) ≡ got (record { key = k; value = is (l ++ concat ms) }) rest
pair_read k l line ms lines rest h c t q n g u e =
    let x : List ℕ = ended l ++ (each ended lines ++ rest) in
    key_read k (61 ∷ x) (each ended (line ∷ lines) ++ rest) (is (l ++ concat ms)) rest
    (rw (line_is (47 ∷ (k ++ 61 ∷ l)) line h) (regroup k (61 ∷ []) l (10 ∷ []) (each ended lines) rest)) t refl
    (pair_value k (l ++ concat ms) x rest
    (value_bare k (l ++ concat ms) x rest (unquoted l (each ended lines ++ rest) q) (bare_read 21 rest e l ms lines c n g) u))
  where
    regroup : (k s l e m r : List ℕ) → ((spaces 21 ++ (47 ∷ (k ++ (s ++ l)))) ++ e) ++ m ++ r ≡ spaces 21 ++ (47 ∷ (k ++ (s ++ ((l ++ e) ++ (m ++ r)))))
    regroup k s l e m r = simp append_assoc
