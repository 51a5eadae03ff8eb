-- A header text: the lines of an entry are read as the text that they were written from.
use Prim.Native.Nat.{ℕ, suc, ◌+◌, ◌-◌, ◌<◌, ◌≤◌}
use Rattle.std.proofs.Common.{arith, length-append, eqb-true}
use Rattle.std.specs.Prelude.{Bool, ◌&&◌, not, ◌||◌, ◌≡◌, length, ltb}
use Rattle.std.proofs.Math.Bool.{true, false}
use Rattle.std.proofs.Math.Path.{refl}
use mathlib.Core.List.{List, [], ◌∷◌, ◌++◌, append_assoc}
use Rattle.std.proofs.lemmas.List.{length-replicate}
use Rattle.std.proofs.Math.Dec.{eqb}
use Rattle.spec_format.specs.Bytes.{spaces, some, starts, all, space, but}
use Rattle.spec_format.specs.Utf8.{utf8}
use Rattle.spec_format.specs.Readers.{got, no, tag}
use Rattle.spec_format.specs.Header.{line_after, field}
use Rattle.spec_format.specs.Wrap.{wrap_text}
use Rattle.spec_format.specs.Write.{padded, field_lines}
use Rattle.spec_format.specs.Keeping.{lines_kept, header_kept}
use Rattle.spec_texts_back.specs.Tests.{and_left, and_right}
use Rattle.spec_texts_back.specs.WrapKept.{laid}
use Rattle.spec_texts_back.proofs.WrapKept.{wrapped_kept}
use Rattle.spec_format.specs.Impossible.{impossible}
use Rattle.spec_texts_back.specs.FieldBack.{Lines, text_end, text_push, text_line, bytes_steps}

-- ---- header texts

module _ (W : ℕ) (keep : Bool) (rest : List ℕ) (stops : tag (spaces 12) rest ≡ no) where
  -- where line ends are not kept, the text has none
  text_back :
      (used : ℕ) (t : List ℕ) → lines_kept false W 12 used t ≡ true → (keep || all (but 10) t) ≡ true →
      Lines 12 keep (laid false 12 t ++ 10 ∷ rest) t rest
  unfolding lines_kept laid
  text_back used [] k h = text_end 12 keep rest stops
  text_back used (b ∷ t) k h = go (λ l. text_back l t) (eqb b 10) refl (eqb b 13) refl keep refl
    where
      go :
          ((l : ℕ) → lines_kept false W 12 l t ≡ true → (keep || all (but 10) t) ≡ true → Lines 12 keep (laid false 12 t ++ 10 ∷ rest) t rest) →
          (x : Bool) → eqb b 10 ≡ x → (y : Bool) → eqb b 13 ≡ y → (z : Bool) → keep ≡ z →
          Lines 12 keep (laid false 12 (b ∷ t) ++ 10 ∷ rest) (b ∷ t) rest
      go ih true p y q true u =
          let k' : (ltb used W && (some t && lines_kept false W 12 12 t)) ≡ true = cc in
          let kt : lines_kept false W 12 12 t ≡ true = and_right (some t) _ (and_right (ltb used W) _ k') in
          let e : line_after keep t ≡ b ∷ t = cc (eqb-true b 10 p) in
          let f : laid false 12 (b ∷ t) ≡ 10 ∷ spaces 12 ++ laid false 12 t = cc in
          rw f (rw e at (text_line 12 keep (laid false 12 t ++ 10 ∷ rest) t rest (ih 12 kt (cc))))
      go ih true p y q false u = impossible cc
      go ih false p true q z u = impossible cc
      go ih false p false q z u =
          let f : laid false 12 (b ∷ t) ≡ b ∷ laid false 12 t = cc in
          rw f (text_push 12 keep b (laid false 12 t ++ 10 ∷ rest) t rest p q (ih (suc used) (cc) (one_less z u)))
        where
          one_less : (x : Bool) → keep ≡ x → (keep || all (but 10) t) ≡ true
          one_less true e = cc
          one_less false e = cc

laid_starts : (t x : List ℕ) → not (starts space t) ≡ true → starts (but 32) (laid false 12 t ++ 10 ∷ x) ≡ true
unfolding laid
laid_starts [] x h = refl
laid_starts (b ∷ t) x h = go (eqb b 10) refl
  where
    go : (y : Bool) → eqb b 10 ≡ y → starts (but 32) (laid false 12 (b ∷ t) ++ 10 ∷ x) ≡ true
    go true p = let f : laid false 12 (b ∷ t) ≡ 10 ∷ spaces 12 ++ laid false 12 t = cc in rw f
    go false p = let f : laid false 12 (b ∷ t) ≡ b ∷ laid false 12 t = cc in rw f h

padded_length : (n : ℕ) (w : List ℕ) → length w ≤ n → length (padded n w) ≡ n
padded_length n w h = rw (length-append, length-replicate {A = ℕ} (n - length w) 32) (omega arith)

regroup : (a b c d e r : List ℕ) → (a ++ b ++ c ++ (d ++ e)) ++ r ≡ a ++ (b ++ (c ++ (d ++ (e ++ r))))
regroup a b c d e r = simp append_assoc

-- what `field_lines` writes of a text that keeps the rules
lines_are :
    (W indent : ℕ) (word t rest : List ℕ) → indent + length word < 12 → lines_kept false W 12 12 t ≡ true →
    field_lines W (spaces indent ++ word) t ++ rest ≡
    spaces indent ++ (word ++ (spaces (suc (11 - (indent + length word))) ++ (laid false 12 t ++ 10 ∷ rest)))
unfolding field_lines wrap_text
lines_are W indent word t rest h k =
    let l : length (spaces indent ++ word) ≡ indent + length word = simp (length-append, length-replicate {A = ℕ} indent 32) in
    let g : 12 - length (spaces indent ++ word) ≡ suc (11 - (indent + length word)) = omega arith in
    rw (padded_length 12 (spaces indent ++ word) (omega arith), wrapped_kept false W 12 12 t k, g)
    (regroup (spaces indent) word (spaces (suc (11 - (indent + length word)))) (laid false 12 t) (10 ∷ []) rest)

-- A HEADER TEXT is read as it was written, line ends and all where they are kept
pub field_back :
    (W indent : ℕ) (word t rest : List ℕ) (keep : Bool) → indent + length word < 12 → header_kept W t ≡ true → utf8 t ≡ true →
    (keep || all (but 10) t) ≡ true → tag (spaces 12) rest ≡ no →
    field indent word keep (field_lines W (spaces indent ++ word) t ++ rest) ≡ got t rest
unfolding field header_kept
field_back W indent word t rest keep h k u one stops =
    let kept : lines_kept false W 12 12 t ≡ true = and_left (lines_kept false W 12 12 t) _ k in
    let g : ℕ = 11 - (indent + length word) in
    let e : indent + suc g + length word ≡ 12 = omega arith in
    let x : List ℕ = laid false 12 t ++ 10 ∷ rest in
    rw (
      lines_are W indent word t rest h kept,
      bytes_steps indent g word x t rest keep e (laid_starts t rest (and_right (lines_kept false W 12 12 t) _ k))
          (text_back W keep rest stops 12 t kept one),
      u,
    )
