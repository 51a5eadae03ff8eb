-- EVERY KEY AND KIND THAT FITS IS TAKEN: there is no list of allowed ones. `key_read` and `key_cut` settle the answer on every input, with a byte that stops and without; so do those of kinds.
use Rattle.std.specs.Prelude.{ℕ, ◌≤◌, Bool, true, false, ◌&&◌, not, ◌≡◌, refl, List, [], ◌∷◌, ◌++◌, ltb, leb}
use Rattle.std.proofs.Common.{arith, lt-ltb, leb-true}
use Rattle.std.proofs.lemmas.Bool.{not-true}
use Rattle.spec_format.specs.Bytes.{pick, some, starts, all, visible, but, space, slash}
use Rattle.spec_format.specs.Utf8.{chars, utf8}
use Rattle.spec_format.specs.Readers.{got, no, cut, passing, until, until1, utf8_of}
use Rattle.spec_format.specs.Features.{key_end, qualifier_key, kind_text, feature_kind}
use Rattle.spec_texts_back.specs.Tests.{and_left, and_right, all_head, all_tail, all_imp}
use Rattle.spec_texts_back.specs.Pieces.{until_back, visible_but}

-- none of the bytes that stop
abbrev pub inside : (ℕ → Bool) → List ℕ → Bool
inside stops w = all (λ b. not (stops b)) w

-- one or more bytes of UTF-8, without those that stop
abbrev pub word_fits : (ℕ → Bool) → List ℕ → Bool
word_fits stops w = some w && (inside stops w && utf8 w)

-- "key (one or more bytes but `=`, CR, LF)"; "Texts must be UTF-8"
abbrev pub key_taken : List ℕ → Bool
key_taken k = word_fits key_end k

-- ---- any bytes that stop, any test of what stands before them

until_cut : (stops : ℕ → Bool) (s : List ℕ) → inside stops s ≡ true → until stops s ≡ cut
unfolding until
until_cut stops [] h = refl
until_cut stops (b ∷ s) h = cc (not-true (stops b) (all_head (λ b. not (stops b)) b s h), until_cut stops s (all_tail (λ b. not (stops b)) b s h))

module _ (stops : ℕ → Bool) (test : List ℕ → Bool) where
  pub word_read : (w x : List ℕ) → inside stops w ≡ true → starts stops x ≡ true → passing test (until1 stops (w ++ x)) ≡ pick (some w && test w) (got w x) no
  word_read w x i e = rw (until_back stops w x i e) (go (some w) refl)
    where
      go : (y : Bool) → some w ≡ y → passing test (passing some (got w x)) ≡ pick (some w && test w) (got w x) no
      go true h = rw h
      go false h = rw h

  pub word_cut : (s : List ℕ) → inside stops s ≡ true → passing test (until1 stops s) ≡ cut
  word_cut s h = rw (until_cut stops s h)

-- any word of one or more bytes of UTF-8
pub any_word : (stops : ℕ → Bool) (w x : List ℕ) → word_fits stops w ≡ true → starts stops x ≡ true → utf8_of (until1 stops (w ++ x)) ≡ got w x
any_word stops w x h e =
    let s : some w ≡ true = search and_left in
    let i : inside stops w ≡ true = search (and_left, and_right) in
    let u : utf8 w ≡ true = search (and_left, and_right) in
    rw (word_read stops utf8 w x i e, s, u)

-- ---- keys

pub key_read : (k x : List ℕ) → inside key_end k ≡ true → starts key_end x ≡ true → qualifier_key (k ++ x) ≡ pick (some k && utf8 k) (got k x) no
key_read k x i e = word_read key_end utf8 k x i e

pub key_cut : (s : List ℕ) → inside key_end s ≡ true → qualifier_key s ≡ cut
key_cut s i = word_cut key_end utf8 s i

-- ---- kinds: what stands before a space, and by departure 3 "number 11's bytes and first byte"

pub kind_read : (k x : List ℕ) → inside space k ≡ true → starts space x ≡ true → feature_kind (k ++ x) ≡ pick (kind_text k) (got k x) no
kind_read k x i e = rw (word_read space kind_text k x i e) (go (some k) refl)
  where
    go : (y : Bool) → some k ≡ y → pick (some k && kind_text k) (got k x) no ≡ pick (kind_text k) (got k x) no
    go true h = rw h
    go false h = rw h

pub kind_cut : (s : List ℕ) → inside space s ≡ true → feature_kind s ≡ cut
kind_cut s i = word_cut space kind_text s i

-- ANY KIND, where a space follows
pub any_kind : (k x : List ℕ) → kind_text k ≡ true → starts space x ≡ true → feature_kind (k ++ x) ≡ got k x
any_kind k x h e =
    let a : all visible k ≡ true = and_left (all visible k) (not (starts slash k)) (and_right (some k) _ h) in
    rw (kind_read k x (all_imp visible (but 32) visible_but k a) e, h)

-- ---- visible bytes are UTF-8

visible_chars : (t : List ℕ) → all visible t ≡ true → chars 0 0 0 t ≡ true
unfolding chars
visible_chars [] h = refl
visible_chars (b ∷ t) h =
    let u : b ≤ 126 = leb-true b 126 (and_right (leb 33 b) (leb b 126) (all_head visible b t h)) in
    let l : ltb b 128 ≡ true = lt-ltb b 128 (omega arith) in
    rw (l, chars) (visible_chars t (all_tail visible b t h))

pub visible_utf8 : (t : List ℕ) → all visible t ≡ true → utf8 t ≡ true
unfolding utf8
visible_utf8 t h = visible_chars t h
