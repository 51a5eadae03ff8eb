-- A LIST OF FREQUENT WORDS BEFORE THE RULE, as the Rust has one for keys and one for kinds, CHANGES NO ANSWER, whatever words it has that fit. So there is none in the port, and nothing is missing.
-- That the Rust's words fit, tools/listed checks where they stand (docs/src).
use Rattle.std.specs.Prelude.{ℕ, Bool, not, ◌≡◌}
use Rattle.std.proofs.Math.Bool.{true, false}
use Rattle.std.proofs.Math.Path.{refl, fun_ext}
use mathlib.Core.List.{List, ◌∷◌}
use Rattle.spec_format.specs.Bytes.{some, starts, all, visible, space, slash}
use Rattle.spec_format.specs.Utf8.{utf8}
use Rattle.spec_format.specs.Readers.{Ans, got, no, cut, passing, until1, utf8_of}
use Rattle.spec_format.specs.Features.{qualifier_key, kind_text, feature_kind}
use Rattle.spec_texts_back.specs.Tests.{and_left, and_right}
use Rattle.spec_feature_names.specs.Taken.{word_fits, key_taken, any_word, any_kind, visible_utf8}
use Rattle.spec_feature_names.proofs.Taken.{any_key}
use Rattle.spec_feature_names.specs.Listed.{listed, listed_same, plain_kind}

-- ---- keys, and the byte `=`

-- A LIST OF KEYS: for words of one or more bytes of UTF-8 without `=`, CR and LF
pub keys_same : (words : List (List ℕ)) → all key_taken words ≡ true → (s : List ℕ) → listed 61 words qualifier_key s ≡ qualifier_key s
keys_same words h s = listed_same 61 qualifier_key key_taken (λ w x f. any_key w (61 ∷ x) f refl) words h s

-- so it is the same reader, and whatever is defined by it is the same
pub keys_one : (words : List (List ℕ)) → all key_taken words ≡ true → listed 61 words qualifier_key ≡ qualifier_key
keys_one words h = fun_ext (keys_same words h)

-- ---- kinds, and the space

-- A LIST OF KINDS before our rule: for words that departure 3 takes
pub kinds_same : (words : List (List ℕ)) → all kind_text words ≡ true → (s : List ℕ) → listed 32 words feature_kind s ≡ feature_kind s
kinds_same words h s = listed_same 32 feature_kind kind_text (λ w x f. any_kind w (32 ∷ x) f refl) words h s

pub kinds_one : (words : List (List ℕ)) → all kind_text words ≡ true → listed 32 words feature_kind ≡ feature_kind
kinds_one words h = fun_ext (kinds_same words h)

-- before that, for words of one or more bytes of UTF-8 without the space
pub plain_same : (words : List (List ℕ)) → all (word_fits space) words ≡ true → (s : List ℕ) → listed 32 words plain_kind s ≡ plain_kind s
plain_same words h s = listed_same 32 plain_kind (word_fits space) (λ w x f. any_word space w (32 ∷ x) f refl) words h s

-- and then departure 3's test, of whatever list or rule gave, is our rule
pub kinds_tested : (words : List (List ℕ)) → all (word_fits space) words ≡ true → (s : List ℕ) → passing kind_text (listed 32 words plain_kind s) ≡ feature_kind s
kinds_tested words h s = rw (plain_same words h s) (tested (until1 space s))
  where
    kind_utf8 : (t : List ℕ) → kind_text t ≡ true → utf8 t ≡ true
    kind_utf8 t k = visible_utf8 t (and_left (all visible t) (not (starts slash t)) (and_right (some t) _ k))

    tested : (o : Ans (List ℕ)) → passing kind_text (utf8_of o) ≡ passing kind_text o
    tested (got t r) = go (kind_text t) refl (utf8 t) refl
      where
        go : (x : Bool) → kind_text t ≡ x → (y : Bool) → utf8 t ≡ y → passing kind_text (utf8_of (got t r)) ≡ passing kind_text (got t r)
        go true k y u = rw (kind_utf8 t k, k)
        go false k true u = rw (u, k)
        go false k false u = rw (u, k)
    tested no = refl
    tested cut = refl
