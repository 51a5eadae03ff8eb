-- Under the keeping rule `wrapped` breaks a text only at its own line ends: quotes are doubled, lines indented, each shorter than the width,
-- and the closing quote stands on the last of them.
use Prim.Native.Nat.{ℕ, zero, suc, ◌+◌, ◌<◌, ◌≤◌}
use native.Mathlib.Omega.{arith}
use Rattle.std.specs.Prelude.{Bool, ◌&&◌, ◌≡◌}
use Rattle.std.proofs.Math.Bool.{true, false}
use Rattle.std.proofs.Math.Path.{refl}
use Rattle.std.proofs.Common.{ap}
use mathlib.Core.List.{List, [], ◌∷◌, ◌++◌, append_assoc}
use Rattle.std.proofs.Math.ListN.{length}
use Rattle.std.proofs.Math.Dec.{eqb, ltb}
use borrow.Author.Tests.{eqb-true, ltb-true, lt-ltb}
use Rattle.spec_format.specs.Bytes.{spaces, some}
use Rattle.spec_format.specs.Wrap.{line_fits, fill, closing, lines_after, wrapped}
use Rattle.spec_format.specs.Keeping.{lines_kept}
use Rattle.spec_texts_back.specs.Tests.{and_left, and_right}
use Rattle.spec_format.specs.Impossible.{impossible}
use Rattle.spec_texts_back.specs.WrapKept.{laid, ending}

-- its first line, and the text after that
unfoldable line_of : Bool → List ℕ → List ℕ
line_of q [] = []
line_of q (b ∷ t) = elim (q && eqb b 34) [ true ↦ 34 ∷ 34 ∷ line_of q t | false ↦ elim (eqb b 10) [ true ↦ [] | false ↦ b ∷ line_of q t ] ]

unfoldable after_line : Bool → List ℕ → List ℕ
after_line q [] = []
after_line q (b ∷ t) = elim (q && eqb b 34) [ true ↦ after_line q t | false ↦ elim (eqb b 10) [ true ↦ t | false ↦ after_line q t ] ]

module _ (q : Bool) (W indent : ℕ) where
  kept_lt : (used : ℕ) (t : List ℕ) → lines_kept q W indent used t ≡ true → used < W
  unfolding lines_kept
  kept_lt used [] k = ltb-true used W k
  kept_lt used (b ∷ t) k = go (λ l. kept_lt l t) (q && eqb b 34) refl (eqb b 10) refl (eqb b 13) refl
    where
      go :
          ((l : ℕ) → lines_kept q W indent l t ≡ true → l < W) → (x : Bool) → (q && eqb b 34) ≡ x → (y : Bool) → eqb b 10 ≡ y → (z : Bool) →
          eqb b 13 ≡ z → used < W
      go ih true p y e z r = omega (arith, ih (suc (suc used)) (cc))
      go ih false p true e z r = ltb-true used W (and_left (ltb used W) (some t && lines_kept q W indent indent t) (cc))
      go ih false p false e true r = impossible cc
      go ih false p false e false r = omega (arith, ih (suc used) (cc))

  fill_kept : (used : ℕ) (t : List ℕ) → lines_kept q W indent used t ≡ true → fill q W used t ≡ line_fits (line_of q t) (after_line q t)
  unfolding fill lines_kept line_of after_line
  fill_kept used [] k = refl
  fill_kept used (b ∷ t) k = go (λ l. fill_kept l t) (q && eqb b 34) refl (eqb b 10) refl (eqb b 13) refl (eqb b 32) refl
    where
      go :
          ((l : ℕ) → lines_kept q W indent l t ≡ true → fill q W l t ≡ line_fits (line_of q t) (after_line q t)) → (x : Bool) → (q && eqb b 34) ≡ x →
          (y : Bool) → eqb b 10 ≡ y → (z : Bool) → eqb b 13 ≡ z → (u : Bool) → eqb b 32 ≡ u →
          fill q W used (b ∷ t) ≡ line_fits (line_of q (b ∷ t)) (after_line q (b ∷ t))
      go ih true p y e z r u v =
          let k' : lines_kept q W indent (suc (suc used)) t ≡ true = cc in
          let room : ltb (suc used) W ≡ true = lt-ltb (suc used) W (omega (arith, kept_lt (suc (suc used)) t k')) in
          cc (ih (suc (suc used)) k')
      go ih false p true e z r u v = cc
      go ih false p false e true r u v = cc
      go ih false p false e false r true v =
          let k' : lines_kept q W indent (suc used) t ≡ true = cc in
          let room : ltb used W ≡ true = lt-ltb used W (kept_lt used (b ∷ t) k) in
          cc (ih (suc used) k', eqb-true b 32 v)
      go ih false p false e false r false v =
          let k' : lines_kept q W indent (suc used) t ≡ true = cc in
          let room : ltb used W ≡ true = lt-ltb used W (kept_lt used (b ∷ t) k) in
          cc (ih (suc used) k')

  after_nil : (n used : ℕ) → lines_after n q W indent used [] ≡ closing q W indent used
  unfolding lines_after
  after_nil zero used = refl
  after_nil (suc n) used = refl

  after_line_lem :
      (n used : ℕ) (t : List ℕ) → some t ≡ true → lines_kept q W indent indent t ≡ true →
      lines_after (suc n) q W indent used t ≡
      10 ∷ spaces indent ++ (line_of q t ++ lines_after n q W indent (indent + length (line_of q t)) (after_line q t))
  unfolding lines_after
  after_line_lem n used [] s k = cc
  after_line_lem n used (b ∷ t) s k =
      let l : List ℕ = line_of q (b ∷ t) in
      rw (fill_kept indent (b ∷ t) k) (ap (λ (x : List ℕ). 10 ∷ x) (append_assoc (spaces indent) l (lines_after n q W indent (indent + length l) (after_line q (b ∷ t)))))

closing_lt : (q : Bool) (W indent used : ℕ) → ltb used W ≡ true → closing q W indent used ≡ ending q
unfolding closing
closing_lt true W indent used h = cc
closing_lt false W indent used h = refl

module _ (q : Bool) (W indent : ℕ) where
  abbrev Whole : ℕ → ℕ → List ℕ → Type 0
  Whole n used t = line_of q t ++ lines_after n q W indent (used + length (line_of q t)) (after_line q t) ≡ laid q indent t ++ ending q

  lay_out : (t : List ℕ) (n used : ℕ) → lines_kept q W indent used t ≡ true → length t ≤ n → Whole n used t
  unfolding lines_kept line_of after_line laid
  lay_out [] n used k h = let e : used + 0 ≡ used = omega arith in cc (after_nil q W indent n (used + 0), closing_lt q W indent used k)
  lay_out (b ∷ t) zero used k h = absurd (omega arith)
  lay_out (b ∷ t) (suc n) used k h = go (λ m l. lay_out t m l) (q && eqb b 34) refl (eqb b 10) refl (eqb b 13) refl
    where
      go :
          ((m l : ℕ) → lines_kept q W indent l t ≡ true → length t ≤ m → Whole m l t) → (x : Bool) → (q && eqb b 34) ≡ x → (y : Bool) → eqb b 10 ≡ y →
          (z : Bool) → eqb b 13 ≡ z → Whole (suc n) used (b ∷ t)
      go ih true p y e z r =
          let c : used + suc (suc (length (line_of q t))) ≡ suc (suc used) + length (line_of q t) = omega arith in
          cc (ih (suc n) (suc (suc used)) (cc) (omega arith))
      go ih false p true e z r =
          let k' : (ltb used W && (some t && lines_kept q W indent indent t)) ≡ true = cc in
          let k'' : (some t && lines_kept q W indent indent t) ≡ true = and_right (ltb used W) (some t && lines_kept q W indent indent t) k' in
          let kt : lines_kept q W indent indent t ≡ true = and_right (some t) (lines_kept q W indent indent t) k'' in
          cc (
            after_line_lem q W indent n (used + 0) t (and_left (some t) (lines_kept q W indent indent t) k'') kt,
            ih n indent kt (omega arith),
            append_assoc (spaces indent) (laid q indent t) (ending q),
          )
      go ih false p false e true r = cc
      go ih false p false e false r =
          let c : used + suc (length (line_of q t)) ≡ suc used + length (line_of q t) = omega arith in
          cc (ih (suc n) (suc used) (cc) (omega arith))

  -- the lines are the text's own
  pub wrapped_kept : (used : ℕ) (t : List ℕ) → lines_kept q W indent used t ≡ true → wrapped q W indent used t ≡ laid q indent t ++ ending q
  unfolding wrapped
  wrapped_kept used t k = cc (fill_kept q W indent used t k, lay_out t (length t) used k (omega arith))
