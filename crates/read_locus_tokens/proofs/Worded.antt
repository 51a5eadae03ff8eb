-- The tokens of a list: blanks before one are skipped, and one reaches up to the next blank.
use Prim.Native.Nat.{ℕ, suc, ◌-◌, ◌≤◌, ◌<◌}
use mathlib.Core.Path.{◌≡◌, refl, sym, ap, ◌∙◌}
use mathlib.Core.Bool.{Bool, true, false, not, ◌&&◌, and_assoc, and-true}
use mathlib.Core.List.{List, [], ◌∷◌}
use native.Mathlib.Omega.{arith}
use lib.ListN.{take, drop}
use Rattle.spec_format.specs.Bytes.{all, starts, blank, not_blank, visible}
use Rattle.spec_format.specs.Locus.{tokens, ahead}
use Rattle.read_locus_tokens.specs.Parts.{cut, passed, plain_byte, Scanned}
use Rattle.read_locus_tokens.proofs.Cuts.{cut_rest, cut_front}
use Rattle.spec_format.specs.Impossible.{impossible}

pub tokens_skip : (l : List ℕ) → tokens l ≡ tokens (drop (passed blank l) l)
unfolding tokens passed
tokens_skip [] = refl
tokens_skip (b ∷ l) = go (tokens_skip l) (blank b) refl
  where
    go : tokens l ≡ tokens (drop (passed blank l) l) → (x : Bool) → blank b ≡ x → tokens (b ∷ l) ≡ tokens (drop (passed blank (b ∷ l)) (b ∷ l))
    go ih true e = rw (tokens, passed, e) ih
    go ih false e = rw (passed, e)

pub tokens_word : (l : List ℕ) → starts not_blank l ≡ true → tokens l ≡ take (passed not_blank l) l ∷ tokens (drop (passed not_blank l) l)
unfolding tokens passed
tokens_word [] h = impossible cc
tokens_word (b ∷ l) h = go (tokens_word l) (blank b) refl h (starts not_blank l) refl
  where
    go : (starts not_blank l ≡ true → tokens l ≡ take (passed not_blank l) l ∷ tokens (drop (passed not_blank l) l)) → (x : Bool) → blank b ≡ x → not (blank b) ≡ true →
        (y : Bool) → starts not_blank l ≡ y → tokens (b ∷ l) ≡ take (passed not_blank (b ∷ l)) (b ∷ l) ∷ tokens (drop (passed not_blank (b ∷ l)) (b ∷ l))
    go ih true e n y f = let z : true ≡ false = cc in impossible cc
    go ih false e n true f = rw (tokens, passed, e, f, ih f)
    go ih false e n false f = rw (tokens, passed, e, f, none l f)
      where
        none : (l : List ℕ) → starts not_blank l ≡ false → passed not_blank l ≡ 0
        none [] f = refl
        none (c ∷ l) f = rw (passed, f)

tokens_none : (l : List ℕ) → passed not_blank (drop (passed blank l) l) ≡ 0 → tokens l ≡ []
unfolding tokens passed
tokens_none [] h = refl
tokens_none (b ∷ l) h = go (tokens_none l) (blank b) refl
  where
    go : (passed not_blank (drop (passed blank l) l) ≡ 0 → tokens l ≡ []) → (x : Bool) → blank b ≡ x → tokens (b ∷ l) ≡ []
    go ih true e = rw (tokens, e) (ih (rw (passed, e) at h))
    go ih false e = let z : ◌≡◌ {A = ℕ} (suc (passed not_blank l)) 0 = rw (passed, e, passed, e) at h in absurd (omega arith)

pub all_tokens : (l : List ℕ) → all (all visible) (tokens l) ≡ all plain_byte l
unfolding tokens
all_tokens [] = refl
all_tokens (b ∷ l) = go (all_tokens l) (blank b) refl (starts not_blank l) refl
  where
    ahead_all : (ts : List (List ℕ)) → all (all visible) (ahead b ts) ≡ visible b && all (all visible) ts
    ahead_all [] = simp and-true
    ahead_all (t ∷ ts) = and_assoc (visible b) (all visible t) (all (all visible) ts)

    go : all (all visible) (tokens l) ≡ all plain_byte l → (x : Bool) → blank b ≡ x → (y : Bool) → starts not_blank l ≡ y → all (all visible) (tokens (b ∷ l)) ≡ all plain_byte (b ∷ l)
    go ih true e y f = rw (tokens, e) ih
    go ih false e true f = rw (tokens, e, f, ahead_all (tokens l), ih)
    go ih false e false f = rw (tokens, e, f, and-true (visible b), ih)

module _ (s : List ℕ) (at first end to : ℕ) (a : Scanned blank s at to first) (b : Scanned not_blank s first to end) where
  after_blanks : passed blank (cut s at to) ≡ first - at
  after_blanks = omega (arith, a.is)

  in-word : passed not_blank (cut s first to) ≡ end - first
  in-word = omega (arith, b.is)

  some_passed : (l : List ℕ) → 0 < passed not_blank l → starts not_blank l ≡ true
  unfolding passed
  some_passed [] h = absurd (omega arith)
  some_passed (c ∷ l) h = go (not_blank c) refl
    where
      go : (x : Bool) → not_blank c ≡ x → not_blank c ≡ true
      go true e = e
      go false e = absurd (let z : 0 < 0 = rw (passed, e) at h in omega arith)

  pub token_some : first < end → cut s first end ∷ tokens (cut s end to) ≡ tokens (cut s at to)
  token_some h =
      let n : 0 < passed not_blank (cut s first to) = rw in-word (omega arith) in
      let skip : tokens (cut s at to) ≡ tokens (cut s first to) = tokens_skip (cut s at to) ∙ ap tokens (rw after_blanks (cut_rest s at first to a.from)) in
      let word : tokens (cut s first to) ≡ take (end - first) (cut s first to) ∷ tokens (drop (end - first) (cut s first to)) = rw in-word at (tokens_word (cut s first to) (some_passed (cut s first to) n)) in
      sym (skip ∙ word ∙ rw (cut_front s first end to b.from b.within, cut_rest s first end to b.from))

  pub token_none : end ≤ first → [] ≡ tokens (cut s at to)
  token_none h =
      let z : passed not_blank (cut s first to) ≡ 0 = omega (arith, in-word) in
      sym (tokens_none (cut s at to) (rw (after_blanks, cut_rest s at first to a.from) z))
