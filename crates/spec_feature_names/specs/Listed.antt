-- A list of frequent words before a rule that takes them changes no answer. So it is with keys and kinds: proofs/Listed.antt.
use Rattle.std.specs.Prelude.{ℕ, Bool, ◌&&◌, ◌≡◌, length, drop, eqb}
use Rattle.std.proofs.Math.Bool.{true, false}
use Rattle.std.proofs.Math.Path.{refl}
use Rattle.std.proofs.Common.{◌∙◌, eqb-true}
use mathlib.Core.List.{List, [], ◌∷◌, ◌++◌, append_assoc}
use Rattle.spec_format.specs.Bytes.{pick, all, space}
use Rattle.spec_format.specs.Readers.{Ans, got, until1, utf8_of}
use Rattle.spec_format.specs.Impossible.{impossible}
use Rattle.spec_texts_back.specs.Tests.{and_left, and_right, all_head, all_tail}

-- s begins with w: a slice pattern `[b'g', b'e', .., ..]`
unfoldable pub begins : List ℕ → List ℕ → Bool
begins [] s = true
begins (c ∷ w) [] = false
begins (c ∷ w) (b ∷ s) = eqb b c && begins w s

-- `match input { [w, stop, ..] => Ok((&input[w.len()..], w)), .., _ => rule }`: one of these words and the byte that stops it, in order, else the rule
unfoldable pub listed : ℕ → List (List ℕ) → (List ℕ → Ans (List ℕ)) → List ℕ → Ans (List ℕ)
listed stop [] rule s = rule s
listed stop (w ∷ ws) rule s = pick (begins (w ++ stop ∷ []) s) (got w (drop (length w) s)) (listed stop ws rule s)

-- ---- any rule, any list of words that the rule takes

begins_is : (w s : List ℕ) → begins w s ≡ true → s ≡ w ++ drop (length w) s
unfolding begins
begins_is [] s h = refl
begins_is (c ∷ w) [] h = impossible cc
begins_is (c ∷ w) (b ∷ s) h =
    let e : b ≡ c = eqb-true b c (and_left (eqb b c) (begins w s) h) in
    cc (e, begins_is w s (and_right (eqb b c) (begins w s) h))

drop_word : (w x : List ℕ) → drop (length w) (w ++ x) ≡ x
drop_word [] x = refl
drop_word (b ∷ w) x = drop_word w x

module _ (stop : ℕ) (rule : List ℕ → Ans (List ℕ)) (fits : List ℕ → Bool) (takes : (w x : List ℕ) → fits w ≡ true → rule (w ++ stop ∷ x) ≡ got w (stop ∷ x)) where
  -- where a word and its byte stand, the rule says what the list says
  takes_here : (w s : List ℕ) → fits w ≡ true → begins (w ++ stop ∷ []) s ≡ true → got w (drop (length w) s) ≡ rule s
  takes_here w s h b =
      let x : List ℕ = drop (length (w ++ stop ∷ [])) s in
      let e : s ≡ w ++ stop ∷ x = begins_is (w ++ stop ∷ []) s b ∙ append_assoc w (stop ∷ []) x in
      rw e (rw (drop_word w (stop ∷ x), takes w x h))

  pub listed_same : (words : List (List ℕ)) → all fits words ≡ true → (s : List ℕ) → listed stop words rule s ≡ rule s
  unfolding listed
  listed_same [] h s = refl
  listed_same (w ∷ ws) h s = go (begins (w ++ stop ∷ []) s) refl (listed_same ws (all_tail fits w ws h) s)
    where
      go : (y : Bool) → begins (w ++ stop ∷ []) s ≡ y → listed stop ws rule s ≡ rule s → listed stop (w ∷ ws) rule s ≡ rule s
      go true b ih = rw b (takes_here w s (all_head fits w ws h) b)
      go false b ih = rw b ih

-- ---- kinds, and the space

-- the last arm of `feature_kind`, without departure 3: `is_not(" ")`, UTF-8
abbrev pub plain_kind : List ℕ → Ans (List ℕ)
plain_kind s = utf8_of (until1 space s)
