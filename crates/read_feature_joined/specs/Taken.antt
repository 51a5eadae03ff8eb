-- The text that a loop of turns joins from its pieces, one piece at a time; it is defined also where the loop ends in no or cut.
use Rattle.std.specs.Prelude.{ℕ, ◌+◌, ◌≡◌, List, [], ◌++◌, length}
use Rattle.std.proofs.Common.{ap, ◌∙◌, arith, length-append}
use Rattle.spec_format.specs.Bytes.{concat}
use Rattle.spec_format.specs.Readers.{Ans, got, no, cut, bind, Turn, more, stop, members, end, loop}
use Rattle.spec_loops.specs.Loops.{Shrinks, members_stop, members_no, members_cut}
use Rattle.spec_loops.proofs.Loops.{members_more}
use Rattle.scan_utf8.specs.declared.State.{State}
use Rattle.scan_utf8.specs.States.{Ran, ran_none, ran_append}
use Rattle.base_pen.specs.Pen.{Writes, Left, left_step, left_as, left_end}

module _ (turn : List ℕ → Ans (Turn (List ℕ))) where
  -- the pieces, one after the other
  unfoldable pub taken : List ℕ → List ℕ
  taken s = concat (members turn s)

  -- the loop's answer, joined
  unfoldable pub gathered : List ℕ → Ans (List ℕ)
  gathered s = bind (loop turn s) λ pieces r. got (concat pieces) r

  module _ (s : List ℕ) where
    pub taken_more : Shrinks turn → (a r : List ℕ) → turn s ≡ got (more a) r → taken s ≡ a ++ taken r
    unfolding taken
    taken_more small a r e = rw (members_more turn small s a r e)

    pub taken_stop : (r : List ℕ) → turn s ≡ got stop r → taken s ≡ []
    unfolding taken
    taken_stop r e = rw (members_stop turn s r e)

    pub taken_no : turn s ≡ no → taken s ≡ []
    unfolding taken
    taken_no e = rw (members_no turn s e)

    pub taken_cut : turn s ≡ cut → taken s ≡ []
    unfolding taken
    taken_cut e = rw (members_cut turn s e)

    pub gathered_got : (z : List ℕ) → end turn s ≡ got tt z → gathered s ≡ got (taken s) z
    unfolding taken gathered
    gathered_got z e = rw e

    pub gathered_no : end turn s ≡ no → gathered s ≡ no
    unfolding gathered
    gathered_no e = rw e

    pub gathered_cut : end turn s ≡ cut → gathered s ≡ cut
    unfolding gathered
    gathered_cut e = rw e

-- Of the text t `long` bytes were passed, which led from the state u to v, and `rest` is still to come.
pub record SoFar (t : List ℕ) (long : ℕ) (u v : State) (rest : List ℕ) : Type 0 where
  pub size : length t ≡ long + length rest
  pub ran : (w : State) → Ran v rest w → Ran u t w

pub so_none : (t : List ℕ) (u : State) → SoFar t 0 u u t
so_none t u = record { size = omega arith; ran = λ w h. h }

pub so_more : {t : List ℕ} {n : ℕ} {u v w : State} {rest : List ℕ} (a rest' : List ℕ)
    → SoFar t n u v rest → rest ≡ a ++ rest' → Ran v a w → SoFar t (n + length a) u w rest'
so_more {t} {n} {u} {v} {w} {rest} a rest' h e r =
    let k : length rest ≡ length a + length rest' = ap length e ∙ length-append a rest' in
    record { size = omega (arith, h.size); ran = λ x g. h.ran x (rw e (ran_append v w x a rest' r g)) }

pub so_size : {t : List ℕ} {n : ℕ} {u v : State} {rest : List ℕ} → SoFar t n u v rest → rest ≡ [] → n ≡ length t
so_size {t} {n} {u} {v} {rest} h e = let k : length rest ≡ 0 = ap length e in omega (arith, h.size)

pub so_ran : {t : List ℕ} {n : ℕ} {u v : State} {rest : List ℕ} → SoFar t n u v rest → rest ≡ [] → Ran u t v
so_ran {t} {n} {u} {v} h e = h.ran v (rw e (ran_none v))

-- a piece was put, and the rest of the text is still to be
pub left_piece : {old now' new : List ℕ} {at p q : ℕ} {t rest : List ℕ} (a rest' : List ℕ)
    → Left old at t now' p rest → rest ≡ a ++ rest' → Writes now' p a new q → Left old at t new q rest'
left_piece a rest' h e w = left_step (left_as e h) w

pub left_none : {old now' : List ℕ} {at p : ℕ} {t rest : List ℕ} → Left old at t now' p rest → rest ≡ [] → Writes old at t now' p
left_none h e = left_end (left_as e h)
