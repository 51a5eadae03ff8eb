-- Loops, one turn at a time: what may go on, and where a turn does not go on. What one that goes on adds is in proofs/Loops.antt.
use Prim.Native.Nat.{ℕ, ◌<◌}
use Rattle.std.specs.Prelude.{◌≡◌}
use Rattle.std.proofs.Math.Path.{refl}
use Rattle.std.proofs.Common.{◌∙◌}
use mathlib.Core.List.{List, []}
use Rattle.std.proofs.Math.ListN.{length}
use Rattle.spec_format.specs.Readers.{Ans, got, no, cut, Turn, more, stop, members_up_to, end_up_to, members, end, loop, fitting, fit_turn, many0, trying, try_turn, while_fits}
use Rattle.spec_format.specs.Impossible.{impossible}

-- a turn that goes on takes a byte at least
abbrev pub Shrinks : {A : Type 0} → (List ℕ → Ans (Turn A)) → Type 0
Shrinks {A} turn = (s : List ℕ) (a : A) (r : List ℕ) → turn s ≡ got (more a) r → length r < length s

-- a reader takes a byte at least
abbrev pub Takes : {A : Type 0} → (List ℕ → Ans A) → Type 0
Takes {A} p = (s : List ℕ) (a : A) (r : List ℕ) → p s ≡ got a r → length r < length s

-- where a turn does not go on
module _ {A : Type 0} (turn : List ℕ → Ans (Turn A)) (s : List ℕ) where
  pub members_stop : (r : List ℕ) → turn s ≡ got stop r → members turn s ≡ []
  unfolding members members_up_to
  members_stop r e = rw (members_up_to, e)

  pub members_no : turn s ≡ no → members turn s ≡ []
  unfolding members members_up_to
  members_no e = rw (members_up_to, e)

  pub members_cut : turn s ≡ cut → members turn s ≡ []
  unfolding members members_up_to
  members_cut e = rw (members_up_to, e)

  pub end_stop : (r : List ℕ) → turn s ≡ got stop r → end turn s ≡ got tt r
  unfolding end end_up_to
  end_stop r e = rw (end_up_to, e)

  pub end_no : turn s ≡ no → end turn s ≡ no
  unfolding end end_up_to
  end_no e = rw (end_up_to, e)

  pub end_cut : turn s ≡ cut → end turn s ≡ cut
  unfolding end end_up_to
  end_cut e = rw (end_up_to, e)

  pub loop_stop : (r : List ℕ) → turn s ≡ got stop r → loop turn s ≡ got [] r
  loop_stop r e = rw (end_stop r e, members_stop r e)

  loop_cut : turn s ≡ cut → loop turn s ≡ cut
  loop_cut e = rw (end_cut e)

-- many0: as often as p fits
module _ {A : Type 0} (p : List ℕ → Ans A) where
  pub fit_shrinks : Takes p → Shrinks (fit_turn p)
  fit_shrinks small s a r e = go (p s) refl e
    where
      go : (o : Ans A) → p s ≡ o → fitting s o ≡ got (more a) r → length r < length s
      go (got b z) f g = small s a r (cc)
      go no f g = impossible cc
      go cut f g = impossible cc

  pub try_shrinks : Takes p → Shrinks (try_turn p)
  try_shrinks small s a r e = go (p s) refl e
    where
      go : (o : Ans A) → p s ≡ o → trying s o ≡ got (more a) r → length r < length s
      go (got b z) f g = small s a r (cc)
      go no f g = impossible cc
      go cut f g = impossible cc

module _ {A : Type 0} (p : List ℕ → Ans A) (s : List ℕ) where
  pub fit_members_stop : p s ≡ no → members (fit_turn p) s ≡ []
  fit_members_stop e = members_stop (fit_turn p) s s (cc)

  pub fit_end_stop : p s ≡ no → end (fit_turn p) s ≡ got tt s
  fit_end_stop e = end_stop (fit_turn p) s s (cc)

  pub many0_stop : p s ≡ no → many0 p s ≡ got [] s
  many0_stop e = loop_stop (fit_turn p) s s (cc)

  pub fit_members_cut : p s ≡ cut → members (fit_turn p) s ≡ []
  fit_members_cut e = members_cut (fit_turn p) s (cc)

  pub fit_end_cut : p s ≡ cut → end (fit_turn p) s ≡ cut
  fit_end_cut e = end_cut (fit_turn p) s (cc)

  pub many0_cut : p s ≡ cut → many0 p s ≡ cut
  many0_cut e = loop_cut (fit_turn p) s (cc)

  -- whatever the next one says, if it is not read
  pub try_members_no : p s ≡ no → members (try_turn p) s ≡ []
  try_members_no e = members_stop (try_turn p) s s (cc)

  pub try_end_no : p s ≡ no → end (try_turn p) s ≡ got tt s
  try_end_no e = end_stop (try_turn p) s s (cc)

  pub tries_no : p s ≡ no → while_fits p s ≡ got [] s
  tries_no e = loop_stop (try_turn p) s s (cc)

  pub try_members_cut : p s ≡ cut → members (try_turn p) s ≡ []
  try_members_cut e = members_stop (try_turn p) s s (cc)

  pub try_end_cut : p s ≡ cut → end (try_turn p) s ≡ got tt s
  try_end_cut e = end_stop (try_turn p) s s (cc)

  pub tries_cut : p s ≡ cut → while_fits p s ≡ got [] s
  tries_cut e = loop_stop (try_turn p) s s (cc)

-- In a code's loop: o is the answer of the whole, and what was an answer from s is one from r.
module _ {A : Type 0} (turn : List ℕ → Ans (Turn A)) (s : List ℕ) (o : Ans Unit) where
  pub end_stops : (r : List ℕ) → o ≡ end turn s → turn s ≡ got stop r → o ≡ got tt r
  end_stops r h e = h ∙ end_stop turn s r e

  pub end_noes : o ≡ end turn s → turn s ≡ no → o ≡ no
  end_noes h e = h ∙ end_no turn s e

  pub end_cuts : o ≡ end turn s → turn s ≡ cut → o ≡ cut
  end_cuts h e = h ∙ end_cut turn s e
