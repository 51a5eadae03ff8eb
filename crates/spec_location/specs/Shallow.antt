-- Where number 14 is not due: what has its reading is not too deep, so neither is a feature or CONTIG that was read.
use Rattle.std.specs.Prelude.{ℕ, zero, suc, ◌+◌, ◌<◌, Bool, true, false, ◌&&◌, ◌||◌, ◌≡◌, refl, List, [], ◌∷◌, length, eqb}
use Rattle.std.proofs.Common.{arith}
use Rattle.std.proofs.lemmas.Bool.{not-true}
use Rattle.spec_format.specs.Bytes.{May, bytes, spaces, starts, but}
use Rattle.spec_format.specs.Readers.{Ans, got, no, cut, passing, optional, tag, until, spaces1}
use Rattle.spec_format.specs.Table.{Feature, Contig}
use Rattle.spec_format.specs.Header.{field_text, field_bytes}
use Rattle.spec_format.specs.Features.{feature_kind, bare, feature_from, feature}
use Rattle.spec_format.specs.Location.{Reading, one, none, too_deep, reading, is_one, is_deep, locates}
use Rattle.spec_format.specs.Deep.{so_far, asked, deep_from, deep_feature, deep_contig}
use Rattle.spec_format.specs.Record.{features, base_count, contig, is_there, deep_in}
use Rattle.spec_format.specs.Impossible.{impossible}
use Rattle.spec_location.specs.SoFar.{so_far_bare, so_far_text}

-- a text that has a reading is not too deep
pub not_deep : (gaps : Bool) (t : List ℕ) → locates gaps t ≡ true → is_deep (reading gaps t) ≡ false
not_deep gaps t h = go (reading gaps t) h
  where
    go : (o : Reading) → is_one o ≡ true → is_deep o ≡ false
    go (one rows) e = refl
    go none e = refl
    go too_deep e = impossible cc

-- ---- features

-- before a byte that is no space there is no feature
pub shallow_start : (s : List ℕ) → starts (but 32) s ≡ true → deep_feature s ≡ false
unfolding deep_feature until
shallow_start [] h = refl
shallow_start (b ∷ s) h = rw (until, h)

shallow_from : (indent : ℕ) (kind s : List ℕ) (f : Feature) (r : List ℕ) → feature_from indent kind s ≡ got f r → asked (deep_from false indent s) ≡ false
unfolding feature_from
shallow_from indent kind s f r h = go (bare indent s) refl
  where
    go : (o : Ans (List ℕ)) → bare indent s ≡ o → asked (deep_from false indent s) ≡ false
    go (got t z) e = inner (locates false t) refl
      where
        inner : (x : Bool) → locates false t ≡ x → asked (deep_from false indent s) ≡ false
        inner true g = rw (so_far_bare indent s t z e) (not_deep false t g)
        inner false g = impossible (cc (rw g at (rw e at h)))
    go no e = impossible (cc (rw e at h))
    go cut e = impossible (cc (rw e at h))

-- a feature that was read is not too deep
pub shallow_feature : (s : List ℕ) (f : Feature) (r : List ℕ) → feature s ≡ got f r → deep_feature s ≡ false
unfolding feature deep_feature
shallow_feature s f r h = go (spaces1 s) refl
  where
    go : (o : Ans (List ℕ)) → spaces1 s ≡ o → deep_feature s ≡ false
    go (got before s₁) e₁ = on (feature_kind s₁) refl
      where
        on : (o : Ans (List ℕ)) → feature_kind s₁ ≡ o → deep_feature s ≡ false
        on (got kind s₂) e₂ = last (spaces1 s₂) refl
          where
            last : (o : Ans (List ℕ)) → spaces1 s₂ ≡ o → deep_feature s ≡ false
            last (got after s₃) e₃ =
                rw (e₁, e₂, e₃) (shallow_from (length before + length kind + length after) kind s₃ f r (rw (e₁, e₂, e₃) at h))
            last no e₃ = rw (e₁, e₂, e₃)
            last cut e₃ = rw (e₁, e₂, e₃)
        on no e₂ = rw (e₁, e₂)
        on cut e₂ = rw (e₁, e₂)
    go no e₁ = rw e₁
    go cut e₁ = rw e₁

-- ---- CONTIG

-- no CONTIG stands here
pub shallow_none : (s : List ℕ) → tag (bytes "CONTIG") s ≡ no → deep_contig s ≡ false
unfolding deep_contig
shallow_none s e = rw e

-- a CONTIG whose text so far has a reading
pub shallow_text : (n : ℕ) (s t : List ℕ) → so_far true n s ≡ t → locates true t ≡ true → asked (deep_from true n s) ≡ false
shallow_text n s t e h = rw e (not_deep true t h)

no_indent : (n : ℕ) (s : List ℕ) → 0 < n → starts (but 32) s ≡ true → tag (spaces n) s ≡ no
unfolding tag
no_indent zero s l h = absurd (omega arith)
no_indent (suc n) [] l h = impossible cc
no_indent (suc n) (b ∷ s) l h = rw (tag, not-true (eqb b 32) h)

no_word : (s : List ℕ) → tag (spaces 0) s ≡ got tt s
unfolding tag
no_word s = refl

shallow_field :
    (n : ℕ) (s : List ℕ) (t r : List ℕ) → passing (locates true) (field_text n false s) ≡ got t r → 0 < n → starts (but 32) r ≡ true →
    asked (deep_from true n s) ≡ false
shallow_field n s t r h l p = go (field_text n false s) refl
  where
    go : (o : Ans (List ℕ)) → field_text n false s ≡ o → asked (deep_from true n s) ≡ false
    go (got x z) e = inner (locates true x) refl
      where
        inner : (y : Bool) → locates true x ≡ y → asked (deep_from true n s) ≡ false
        inner true g =
            let q : z ≡ r = cc (rw (e, g) at h) in
            shallow_text n s x (so_far_text n s x z e (no_indent n z l (rw q p))) g
        inner false g = impossible (cc (rw (e, g) at h))
    go no e = impossible (cc (rw e at h))
    go cut e = impossible (cc (rw e at h))

contig_text_lem : (s : List ℕ) (c : Contig) (r : List ℕ) → contig s ≡ got c r → (t : List ℕ) × (passing (locates true) (field_bytes 0 (bytes "CONTIG") false s) ≡ got t r)
contig_text_lem s c r h = go (passing (locates true) (field_bytes 0 (bytes "CONTIG") false s)) refl
  where
    go :
        (o : Ans (List ℕ)) → passing (locates true) (field_bytes 0 (bytes "CONTIG") false s) ≡ o →
        (t : List ℕ) × (passing (locates true) (field_bytes 0 (bytes "CONTIG") false s) ≡ got t r)
    go (got t z) e = (t, cc (rw e at h))
    go no e = impossible (cc (rw e at h))
    go cut e = impossible (cc (rw e at h))

-- a CONTIG that was read, where none of its lines follows, is not too deep
pub shallow_contig : (s : List ℕ) (c : Contig) (r : List ℕ) → contig s ≡ got c r → starts (but 32) r ≡ true → deep_contig s ≡ false
unfolding deep_contig field_bytes
shallow_contig s c r h p = go (tag (bytes "CONTIG") s) refl
  where
    k : (t : List ℕ) × (passing (locates true) (field_bytes 0 (bytes "CONTIG") false s) ≡ got t r)
    k = contig_text_lem s c r h

    go : (o : Ans Unit) → tag (bytes "CONTIG") s ≡ o → deep_contig s ≡ false
    go (got u s₁) e = on (spaces1 s₁) refl
      where
        on : (o : Ans (List ℕ)) → spaces1 s₁ ≡ o → deep_contig s ≡ false
        on (got gap s₂) f =
            let q : 0 + length gap + length (bytes "CONTIG") ≡ length gap + length (bytes "CONTIG") = omega arith in
            rw (e, f) (shallow_field (length gap + length (bytes "CONTIG")) s₂ k.0 r (rw (no_word s, e, f, q) at k.1) (omega arith) p)
        on no f = rw (e, f)
        on cut f = rw (e, f)
    go no e = rw e
    go cut e = rw e

-- ---- from the header on

-- features up to s₁, where neither a feature nor CONTIG is too deep, and no BASE COUNT
pub shallow_middle :
    (s : List ℕ) (fs : May (List Feature)) (s₁ : List ℕ) → optional s (features s) ≡ got fs s₁ → deep_feature s₁ ≡ false → base_count s₁ ≡ no →
    deep_contig s₁ ≡ false → deep_in s ≡ false
unfolding deep_in
shallow_middle s fs s₁ e f b c = rw (e, f, b, c) (go (is_there fs))
  where
    go : (x : Bool) → ((x && false) || false) ≡ false
    go true = refl
    go false = refl
