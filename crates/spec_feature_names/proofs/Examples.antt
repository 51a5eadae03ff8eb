-- Keys and kinds, each with what is read of it, computed by the definitions: by the rule, by a list alone, and by a list with a word that does not fit, whose answer is then another.
use Prim.Native.Nat.{ℕ}
use mathlib.Core.Bool.{true, false}
use mathlib.Core.Path.{◌≡◌, refl}
use mathlib.Core.List.{List, [], ◌∷◌, ◌++◌, map}
use lib.ListN.{replicate}
use Rattle.spec_format.specs.Bytes.{bytes, space}
use Rattle.spec_format.specs.Utf8.{chars, utf8}
use Rattle.spec_format.specs.Readers.{Ans, got, no, cut, until}
use Rattle.spec_format.specs.Features.{qualifier_key, kind_text, feature_kind}
use Rattle.spec_feature_names.specs.Taken.{word_fits, key_taken}
use Rattle.spec_feature_names.specs.Listed.{begins, listed, plain_kind}

-- an example: what is read, and what should be
pub record Example : Type 0 where
  pub got : Ans (List ℕ)
  pub should : Ans (List ℕ)

reads : Ans (List ℕ) → Ans (List ℕ) → Example
reads it should = record { got = it; should = should }

-- two words, before no rule at all: what the list itself takes
words : List (List ℕ)
words = bytes "note" ∷ bytes "gene" ∷ []

no_rule_lem : List ℕ → Ans (List ℕ)
no_rule_lem s = no

by_list : ℕ → List ℕ → Ans (List ℕ)
by_list stop s = listed stop words no_rule_lem s

-- the one word w before a rule, and that rule alone, on the same bytes: an answer each
differ : ℕ → List ℕ → (List ℕ → Ans (List ℕ)) → List ℕ → Ans (List ℕ) → Ans (List ℕ) → List Example
differ stop w rule s with_it without = reads (listed stop (w ∷ []) rule s) with_it ∷ reads (rule s) without ∷ []

pub examples : List Example
examples =
    -- keys that the Rust lists and keys that it does not, among them those that begin like listed ones
    reads (qualifier_key (bytes "gene=\"x\"\n")) (got (bytes "gene") (bytes "=\"x\"\n")) ∷
    reads (qualifier_key (bytes "nickname=\"x\"\n")) (got (bytes "nickname") (bytes "=\"x\"\n")) ∷
    reads (qualifier_key (bytes "notes=x\n")) (got (bytes "notes") (bytes "=x\n")) ∷
    reads (qualifier_key (bytes "gene_=x\n")) (got (bytes "gene_") (bytes "=x\n")) ∷
    -- any bytes: a blank, a slash, a quote, two bytes of UTF-8
    reads (qualifier_key (bytes "my \"key\"/2" ++ 195 ∷ 169 ∷ bytes "=x\n")) (got (bytes "my \"key\"/2" ++ 195 ∷ 169 ∷ []) (bytes "=x\n")) ∷
    -- without a value, with either line end
    reads (qualifier_key (bytes "pseudo\n")) (got (bytes "pseudo") (bytes "\n")) ∷
    reads (qualifier_key (bytes "pseudo\r\n")) (got (bytes "pseudo") (bytes "\r\n")) ∷
    -- the input ends in it, ahead of it; it has no byte; it is not UTF-8
    reads (qualifier_key (bytes "gene")) cut ∷
    reads (qualifier_key (bytes "nickname")) cut ∷
    reads (qualifier_key []) cut ∷
    reads (qualifier_key (bytes "=x\n")) no ∷
    reads (qualifier_key (bytes "a" ++ 195 ∷ bytes "=x\n")) no ∷
    -- kinds likewise: on no list, like a listed one, cut, beginning with a slash
    reads (feature_kind (bytes "gene 1..3\n")) (got (bytes "gene") (bytes " 1..3\n")) ∷
    reads (feature_kind (bytes "genes 1..3\n")) (got (bytes "genes") (bytes " 1..3\n")) ∷
    reads (feature_kind (bytes "my_own_kind 1\n")) (got (bytes "my_own_kind") (bytes " 1\n")) ∷
    reads (feature_kind (bytes "gene")) cut ∷
    reads (feature_kind (bytes "/gene 1\n")) no ∷
    -- a list takes its words where the byte that stops stands behind them, which it leaves, and nothing else
    reads (by_list 61 (bytes "note=x\n")) (got (bytes "note") (bytes "=x\n")) ∷
    reads (by_list 61 (bytes "gene=x\n")) (got (bytes "gene") (bytes "=x\n")) ∷
    reads (by_list 61 (bytes "notes=x\n")) no ∷
    reads (by_list 61 (bytes "gene\n")) no ∷
    reads (by_list 61 (bytes "gene")) no ∷
    reads (by_list 61 (bytes "product=x\n")) no ∷
    reads (by_list 32 (bytes "gene 1\n")) (got (bytes "gene") (bytes " 1\n")) ∷
    -- words that lack one of the things asked: a byte at least, none that stops, UTF-8
    differ 61 [] qualifier_key (bytes "=x\n") (got [] (bytes "=x\n")) no ++
    differ 61 (bytes "a=b") qualifier_key (bytes "a=b=x\n") (got (bytes "a=b") (bytes "=x\n")) (got (bytes "a") (bytes "=b=x\n")) ++
    differ 61 (bytes "a\nb") qualifier_key (bytes "a\nb=x\n") (got (bytes "a\nb") (bytes "=x\n")) (got (bytes "a") (bytes "\nb=x\n")) ++
    differ 61 (bytes "a\rb") qualifier_key (bytes "a\rb=x\n") (got (bytes "a\rb") (bytes "=x\n")) (got (bytes "a") (bytes "\rb=x\n")) ++
    differ 61 (195 ∷ []) qualifier_key (195 ∷ bytes "=x\n") (got (195 ∷ []) (bytes "=x\n")) no ++
    differ 32 (bytes "a b") plain_kind (bytes "a b 1\n") (got (bytes "a b") (bytes " 1\n")) (got (bytes "a") (bytes " b 1\n")) ++
    -- and before our rule of kinds what departure 3 asks
    differ 32 (bytes "/gene") feature_kind (bytes "/gene 1\n") (got (bytes "/gene") (bytes " 1\n")) no ++
    differ 32 (195 ∷ 169 ∷ []) feature_kind (195 ∷ 169 ∷ bytes " 1\n") (got (195 ∷ 169 ∷ []) (bytes " 1\n")) no

-- none of these words fits, as a key, as a kind of the Rust's, as a kind of ours
pub unfit : map key_taken ([] ∷ bytes "a=b" ∷ bytes "a\nb" ∷ bytes "a\rb" ∷ (195 ∷ []) ∷ []) ++ map (word_fits space) (bytes "a b" ∷ []) ++ map kind_text (bytes "/gene" ∷ (195 ∷ 169 ∷ []) ∷ []) ≡ replicate 8 false
unfolding chars utf8
unfit = refl

-- but the last two do before the Rust's rule of kinds: what is asked there is too little before ours
pub fit_there : map (word_fits space) (bytes "/gene" ∷ (195 ∷ 169 ∷ []) ∷ []) ≡ replicate 2 true
unfolding chars utf8
fit_there = refl

pub examples_hold : map (λ e. e.got) examples ≡ map (λ e. e.should) examples
unfolding examples reads words no_rule_lem by_list differ begins listed until chars utf8
examples_hold = refl
