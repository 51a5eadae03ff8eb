-- Qualifiers at column 22 are read as key and value: a key alone, and with a quoted value as the public document presents it. With a bare value: proofs/QualifierRead.antt.
use Rattle.std.specs.Prelude.{ℕ, true, ◌≡◌, refl, List, [], ◌∷◌, ◌++◌}
use Rattle.std.proofs.Common.{◌∙◌, append_assoc}
use Rattle.spec_format.specs.Bytes.{May, absent, is, bytes, spaces, starts, all, same}
use Rattle.spec_format.specs.Utf8.{utf8}
use Rattle.spec_format.specs.Readers.{got, many0}
use Rattle.spec_format.specs.Features.{value_of, qualifier, key_end}
use Rattle.spec_format.specs.Table.{Qualifier}
use Rattle.spec_public.specs.Public.{qualifier_columns, presented, broken_text}
use Rattle.spec_loops.specs.Loops.{many0_stop}
use Rattle.spec_loops.proofs.Loops.{many0_more}
use Rattle.spec_loops.proofs.Shrinks.{qualifier_small}
use Rattle.spec_texts_back.specs.Pieces.{no_end}
use Rattle.spec_texts_back.specs.BareBack.{ends}
use Rattle.spec_texts_back.proofs.QuotedBack.{presented_back}
use Rattle.spec_feature_names.specs.Taken.{key_taken}
use Rattle.spec_record_back.specs.QualifierBack.{outside, outside_qualifier, key_steps, flag_value, pair_value, value_quoted}
use Rattle.spec_columns_back.specs.Cells.{cell, last_cell}
use Rattle.spec_columns_back.specs.Further.{ended}

pub line_is : (t line : List ℕ) → qualifier_columns t line ≡ true → line ≡ spaces 21 ++ t
line_is t line h = cell line 0 21 (spaces 21) t _ h (λ h. last_cell line 21 t h)

-- the key, and what is read after it
pub key_read :
    (k x y : List ℕ) (v : May (List ℕ)) (rest : List ℕ) → y ≡ spaces 21 ++ (47 ∷ (k ++ x)) → key_taken k ≡ true → starts key_end x ≡ true →
    value_of 21 k x ≡ got v rest → qualifier 21 y ≡ got (record { key = k; value = v }) rest
key_read k x y v rest e h s g = rw e (key_steps k x v rest h s g)

-- A KEY ALONE has no value
pub flag_read :
    (k line rest : List ℕ) → qualifier_columns (bytes "/" ++ k) line ≡ true → key_taken k ≡ true →
    qualifier 21 (ended line ++ rest) ≡ got (record { key = k; value = absent }) rest
flag_read k line rest h t =
    key_read k (10 ∷ rest) (ended line ++ rest) absent rest (rw (line_is (47 ∷ k) line h) (regroup k (10 ∷ []) rest)) t refl (flag_value k rest)
  where
    regroup : (k e r : List ℕ) → ((spaces 21 ++ (47 ∷ k)) ++ e) ++ r ≡ spaces 21 ++ (47 ∷ (k ++ (e ++ r)))
    regroup k e r = simp append_assoc

-- A QUOTED VALUE, presented over lines, is its text: LF at the breaks, nothing in `translation`. The lines stand with their ends, from column 22 on
pub quoted_read :
    (k l text : List ℕ) (ms : List (List ℕ)) (rest : List ℕ) → qualifier_columns (bytes "/" ++ (k ++ (bytes "=" ++ presented 21 l ms))) text ≡ true →
    key_taken k ≡ true → all no_end l ≡ true → all (all no_end) ms ≡ true → utf8 (broken_text (same k (bytes "translation")) l ms) ≡ true →
    ends 21 rest ≡ true →
    qualifier 21 (text ++ rest) ≡ got (record { key = k; value = is (broken_text (same k (bytes "translation")) l ms) }) rest
quoted_read k l text ms rest h t n g u e =
    let v : List ℕ = broken_text (same k (bytes "translation")) l ms in
    let x : List ℕ = presented 21 l ms ++ rest in
    key_read k (61 ∷ x) (text ++ rest) (is v) rest
    (rw (line_is (47 ∷ (k ++ 61 ∷ presented 21 l ms)) text h) (regroup k (61 ∷ []) (presented 21 l ms) rest)) t refl
    (pair_value k v x rest (value_quoted k v x rest (presented_back (same k (bytes "translation")) 21 l ms rest e n g) u))
  where
    regroup : (k s p r : List ℕ) → (spaces 21 ++ (47 ∷ (k ++ (s ++ p)))) ++ r ≡ spaces 21 ++ (47 ∷ (k ++ (s ++ (p ++ r))))
    regroup k s p r = simp append_assoc

-- ---- qualifiers one after the other

-- a line with a qualifier may follow a location or a value
pub qualifier_follows : (t line x : List ℕ) → qualifier_columns (bytes "/" ++ t) line ≡ true → ends 21 (line ++ x) ≡ true
qualifier_follows t line x h = rw (line_is (47 ∷ t) line h)

-- a qualifier that is read stands before those that are read after it
pub qualifiers_more :
    (s t : List ℕ) (q : Qualifier) (qs : List Qualifier) (rest : List ℕ) → qualifier 21 s ≡ got q t → many0 (qualifier 21) t ≡ got qs rest →
    many0 (qualifier 21) s ≡ got (q ∷ qs) rest
qualifiers_more s t q qs rest e f = many0_more (qualifier 21) (qualifier_small 21) s q t e ∙ rw f

-- and there is none where a line has another byte than a blank in its first 21 columns
pub qualifiers_end : (rest : List ℕ) → outside 21 rest ≡ true → many0 (qualifier 21) rest ≡ got [] rest
qualifiers_end rest h = many0_stop (qualifier 21) rest (outside_qualifier 21 rest h)
