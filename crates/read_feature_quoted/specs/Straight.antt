-- A quoted value that takes three bytes more than its text, two quotes and a LF: no escape stands in it, or none but those that stand for themselves,
-- so that the text stands in the slice as it is. Assumes nothing.
use Rattle.std.specs.Prelude.{ℕ, zero, suc, ◌+◌, ◌-◌, ◌≤◌, ◌<◌, ◌≡◌, Bool, ◌&&◌, drop}
use Rattle.std.proofs.Math.Path.{refl}
use Rattle.std.proofs.Common.{sym, ap, ◌∙◌, arith, not-suc-le-zero, eqb-true, length-append, length-drop, drop-drop}
use Rattle.std.proofs.Math.Bool.{true, false}
use mathlib.Core.List.{List, [], ◌∷◌, ◌++◌}
use Rattle.std.proofs.Math.Dec.{eqb}
use Rattle.std.proofs.Math.ListN.{length, take}
use Rattle.std.proofs.Math.Seq.{take-append-add}
use Rattle.spec_format.specs.Bytes.{pick, bytes, spaces}
use Rattle.spec_format.specs.Readers.{Ans, got, no, cut, bind, mapped, or_else, passing, utf8_of, tag, line_feed, line_end, Turn, more, stop, end}
use Rattle.spec_format.specs.Utf8.{utf8}
use Rattle.spec_format.specs.Features.{special, escape, escaped, quoted_end, quoted_turn, quoted}
use Rattle.spec_loops.specs.Loops.{end_stop, end_no, end_cut}
use Rattle.spec_loops.proofs.Loops.{end_more}
use Rattle.spec_loops.specs.Shrinks.{past_here, past_byte, past_then, past_drop}
use Rattle.spec_loops.specs.Shrinks.{Leaves, leaves_got, leaves_no, leaves_cut, leaves_first, leaves_mapped, leaves_pick, leaves_length}
use Rattle.spec_loops.proofs.Shrinks.{tag_leaves, tag_loose, end_takes, quoted_turn_small}
use Rattle.read_feature_joined.specs.Taken.{taken, taken_more, taken_stop}
use Rattle.read_feature_quoted.specs.Escapes.{closing, quoted_text}
use Rattle.spec_format.specs.Impossible.{impossible}

no_got : {A : Type 0} {a : A} {r : List ℕ} → no ≡ got a r → ⊥
no_got e = impossible cc

cut_got : {A : Type 0} {a : A} {r : List ℕ} → cut ≡ got a r → ⊥
cut_got e = impossible cc

stop_more : {A : Type 0} {a : A} {r w : List ℕ} → got stop w ≡ got (more a) r → ⊥
stop_more e = impossible cc

-- ---- one turn

-- the text a comes from bytes of z, r is what is left of them, and where a is as long as those bytes it is those bytes
record Longer (z a r : List ℕ) : Type 0 where
  most : length a + length r ≤ length z
  same : length a + length r ≡ length z → z ≡ a ++ r

record EscapeLonger (z : List ℕ) (o : Ans ℕ) : Type 0 where
  got : (c : ℕ) (r : List ℕ) → o ≡ got c r → Longer z (c ∷ []) r

-- both take bytes
leaves_both : {A B : Type 0} {m n : ℕ} {s : List ℕ} {o : Ans A} {k : A → List ℕ → Ans B} → Leaves m s o → ((a : A) (r : List ℕ) → Leaves n r (k a r)) → Leaves (m + n) s (bind o k)
leaves_both {A} {B} {m} {n} {s} {o} {k} h g = go o refl
  where
    go : (x : Ans A) → o ≡ x → Leaves (m + n) s (bind x k)
    go (got a r) e = record { past = λ b z f. past_then m n (m + n) s r z (omega arith) (h.past a r e) ((g a r).past b z f) }
    go no e = leaves_no (m + n) s
    go cut e = leaves_cut (m + n) s

longer_two : {z : List ℕ} {o : Ans ℕ} → Leaves 2 z o → EscapeLonger z o
longer_two h =
    record { got = λ c r e. let l = leaves_length h c r e in record { most = omega arith; same = λ f. absurd (omega arith) } }

longer_or : {z : List ℕ} {x y : Ans ℕ} → EscapeLonger z x → EscapeLonger z y → EscapeLonger z (or_else x y)
longer_or {z} {x} {y} h g = go x h
  where
    go : (x : Ans ℕ) → EscapeLonger z x → EscapeLonger z (or_else x y)
    go (got a r) h = h
    go no h = g
    go cut h = record { got = λ c r e. absurd (cut_got e) }

line_feed_lem : (b : ℕ) (s : List ℕ) → Leaves 2 (b ∷ s) (line_feed s)
line_feed_lem b [] = leaves_cut 2 (b ∷ [])
line_feed_lem b (c ∷ s) = leaves_pick (eqb c 10) (leaves_got 2 (b ∷ c ∷ s) [] s (past_byte 1 b (c ∷ s) s (past_byte 0 c s s (past_here s)))) (leaves_no 2 (b ∷ c ∷ s))

-- a LF with no indent after it stands for itself
feed_longer : (indent : ℕ) (z : List ℕ) → EscapeLonger z (bind (line_end z) λ _ s. mapped (λ _. 10) (tag (spaces indent) s))
unfolding line_end
feed_longer indent [] = record { got = λ c r e. absurd (cut_got e) }
feed_longer indent (b ∷ s) = go (eqb b 10) refl (eqb b 13) refl
  where
    here : b ≡ 10 → (o : Ans Unit) → Leaves 0 s o → EscapeLonger (b ∷ s) (mapped (λ _. 10) o)
    here q (got u w) h =
        record {
          got = λ c r e.
              let f : w ≡ r = cc in
              let g : c ≡ 10 = cc in
              let p = h.past u w refl in
              let l = leaves_length h u w refl in
              let m : length w ≡ length r = ap length f in
              record {
                most = omega arith;
                same = λ k.
                    let d : length s - length w ≡ 0 = omega arith in
                    let v : w ≡ s = past_drop 0 s w p ∙ rw d in cc;
              };
        }
    here q no h = record { got = λ c r e. absurd (no_got e) }
    here q cut h = record { got = λ c r e. absurd (cut_got e) }

    go : (x : Bool) → eqb b 10 ≡ x → (y : Bool) → eqb b 13 ≡ y → EscapeLonger (b ∷ s) (bind (line_end (b ∷ s)) λ _ s. mapped (λ _. 10) (tag (spaces indent) s))
    go true e y f = rw (line_end, e) (here (eqb-true b 10 e) (tag (spaces indent) s) (tag_loose (spaces indent) s))
    go false e true f =
        rw (line_end, e, f)
        (longer_two (leaves_first (line_feed_lem b s) (λ _ s. leaves_mapped (λ _. 10) (tag_loose (spaces indent) s))))
    go false e false f = rw (line_end, e, f) (record { got = λ c r e. absurd (no_got e) })

escape_longer : (indent : ℕ) (z : List ℕ) → EscapeLonger z (escape indent z)
unfolding escape
escape_longer indent z =
    longer_or (longer_two (leaves_mapped (λ _. 34) (tag_leaves (bytes "\"\"") z)))
    (longer_or
    (longer_two
    (leaves_both (tag_leaves (bytes "\"") z) (λ _ s. leaves_first (end_takes s) (λ _ s. leaves_first (tag_loose (spaces indent) s) (λ _ s.
    leaves_mapped (λ _. 34) (tag_loose (bytes "\"") s))))))
    (feed_longer indent z))

-- what a turn takes: the bytes of its text at least, and two to end
record TurnLonger (z : List ℕ) (o : Ans (Turn (List ℕ))) : Type 0 where
  on : (a r : List ℕ) → o ≡ got (more a) r → Longer z a r
  off : (r : List ℕ) → o ≡ got stop r → 2 + length r ≤ length z

escaped_longer : (joined : Bool) (z : List ℕ) (c : ℕ) (r : List ℕ) → Longer z (c ∷ []) r → Longer z (escaped joined c) r
escaped_longer joined z c r h = go (joined && eqb c 10)
  where
    go : (t : Bool) → Longer z (pick t [] (c ∷ [])) r
    go true = let l = h.most in record { most = omega arith; same = λ e. absurd (omega arith) }
    go false = h

-- the closing quote and the line's end take two bytes at least, and give no text
closing_off : (z : List ℕ) → Leaves 2 z (closing z)
unfolding closing
closing_off z = leaves_both (tag_leaves (bytes "\"") z) (λ _ r. leaves_mapped (λ _. stop) (end_takes r))

stop_only : (a r : List ℕ) (o : Ans (List ℕ)) → mapped (λ _. stop) o ≡ got (more a) r → ⊥
stop_only a r (got u w) e = stop_more e
stop_only a r no e = no_got e
stop_only a r cut e = cut_got e

closing_only : (a r : List ℕ) (o : Ans Unit) → bind o (λ _ r. mapped (λ _. stop) (line_end r)) ≡ got (more a) r → ⊥
closing_only a r (got u w) e = stop_only a r (line_end w) e
closing_only a r no e = no_got e
closing_only a r cut e = cut_got e

turn_cut : (z : List ℕ) → TurnLonger z cut
turn_cut z = record { on = λ a r e. absurd (cut_got e); off = λ r e. absurd (cut_got e) }

turn_more : (z b w : List ℕ) → Longer z b w → TurnLonger z (got (more b) w)
turn_more z b w h =
    record {
      on = λ a r e. let f : b ≡ a = cc in let g : w ≡ r = cc in rw (f, g) at h;
      off = λ r e. absurd (stop_more (sym e));
    }

turn_longer : (joined : Bool) (indent : ℕ) (z : List ℕ) → TurnLonger z (quoted_turn joined indent z)
unfolding quoted_turn closing
turn_longer joined indent [] = turn_cut []
turn_longer joined indent (b ∷ s) = go (special b)
  where
    ended : (o : Ans ℕ) → EscapeLonger (b ∷ s) o → TurnLonger (b ∷ s) (quoted_end joined (b ∷ s) o)
    ended (got c r) h = turn_more (b ∷ s) (escaped joined c) r (escaped_longer joined (b ∷ s) c r (h.got c r refl))
    ended no h =
        record {
          on = λ a r e. absurd (closing_only a r (tag (bytes "\"") (b ∷ s)) e);
          off = λ r e. leaves_length (closing_off (b ∷ s)) stop r e;
        }
    ended cut h = turn_cut (b ∷ s)

    go : (t : Bool) → TurnLonger (b ∷ s) (pick t (quoted_end joined (b ∷ s) (escape indent (b ∷ s))) (got (more (b ∷ [])) s))
    go true = ended (escape indent (b ∷ s)) (escape_longer indent (b ∷ s))
    go false = turn_more (b ∷ s) (b ∷ []) s (record { most = omega arith; same = λ e. refl })

-- ---- the loop

-- the text t, two bytes at least and w are z; where they are two, z starts with t
record Tight (z t w : List ℕ) : Type 0 where
  most : 2 + length t + length w ≤ length z
  same : 2 + length t + length w ≡ length z → take (length t) z ≡ t

tight_more : (z a r w t u : List ℕ) → u ≡ a ++ t → Longer z a r → Tight r t w → Tight z u w
tight_more z a r w t u e h g =
    let l : length u ≡ length a + length t = ap length e ∙ length-append a t in
    let p = h.most in
    let q = g.most in
    record {
      most = omega arith;
      same = λ f.
          let x : z ≡ a ++ r = h.same (omega arith) in
          let y : take (length t) r ≡ t = g.same (omega arith) in
          rw (l, x, take-append-add a r (length t), y) (sym e);
    }

passed : (p : List ℕ → Bool) (t u w r : List ℕ) → passing p (got u r) ≡ got t w → r ≡ w
passed p t u w r e = go (p u) e
  where
    go : (x : Bool) → pick x (got u r) no ≡ got t w → r ≡ w
    go true e = cc
    go false e = absurd (no_got e)

module _ (joined : Bool) (indent : ℕ) where
  tight : (n : ℕ) (z w : List ℕ) → length z < n → end (quoted_turn joined indent) z ≡ got tt w → Tight z (taken (quoted_turn joined indent) z) w
  tight zero z w h e = absurd (not-suc-le-zero h)
  tight (suc n) z w h e = go (λ r. tight n r w) (quoted_turn joined indent z) refl (turn_longer joined indent z)
    where
      go : ((r : List ℕ) → length r < n → end (quoted_turn joined indent) r ≡ got tt w → Tight r (taken (quoted_turn joined indent) r) w)
          → (o : Ans (Turn (List ℕ))) → quoted_turn joined indent z ≡ o → TurnLonger z o → Tight z (taken (quoted_turn joined indent) z) w
      go ih (got (more a) r) f l =
          let s : length r < length z = quoted_turn_small joined indent z a r f in
          tight_more z a r w (taken (quoted_turn joined indent) r) (taken (quoted_turn joined indent) z)
          (taken_more (quoted_turn joined indent) z (quoted_turn_small joined indent) a r f)
          (l.on a r refl)
          (ih r (omega arith) (sym (end_more (quoted_turn joined indent) (quoted_turn_small joined indent) z a r f) ∙ e))
      go ih (got stop r) f l =
          let k : ◌≡◌ {A = Ans Unit} (got tt r) (got tt w) = sym (end_stop (quoted_turn joined indent) z r f) ∙ e in
          let m : r ≡ w = cc in
          let d : length r ≡ length w = ap length m in
          let q = l.off r refl in
          rw (taken_stop (quoted_turn joined indent) z r f) (record { most = omega arith; same = λ x. refl })
      go ih no f l = absurd (no_got (sym (end_no (quoted_turn joined indent) z f) ∙ e))
      go ih cut f l = absurd (cut_got (sym (end_cut (quoted_turn joined indent) z f) ∙ e))

  -- from the opening quote on
  opened : (x t w : List ℕ) → utf8_of (quoted joined indent x) ≡ got t w → length (quoted_text joined indent x) + 3 + length w ≡ length x
      → take (length (quoted_text joined indent x)) (drop 1 x) ≡ quoted_text joined indent x
  unfolding tag quoted quoted_text
  opened [] t w e l = absurd (cut_got e)
  opened (b ∷ z) t w e l = go (eqb b 34) refl (end (quoted_turn joined indent) z) refl
    where
      go : (x : Bool) → eqb b 34 ≡ x → (o : Ans Unit) → end (quoted_turn joined indent) z ≡ o
          → take (length (quoted_text joined indent (b ∷ z))) z ≡ quoted_text joined indent (b ∷ z)
      go true f (got tt r) g =
          let k : r ≡ w = passed utf8 t _ w r (rw (tag, f, g) at e) in
          let m : length (taken (quoted_turn joined indent) z) + 3 + length w ≡ length (b ∷ z) = rw (tag, f) at l in
          rw (tag, f) ((tight (suc (length z)) z w (omega arith) (g ∙ rw k)).same (omega arith))
      go true f no g = absurd (no_got (rw (tag, f, g) at e))
      go true f cut g = absurd (cut_got (rw (tag, f, g) at e))
      go false f o g = absurd (no_got (rw (tag, f) at e))

  -- with places in the slice
  module _ (s : List ℕ) (at n next : ℕ) where
    pub straight : got (quoted_text joined indent (drop at s)) (drop next s) ≡ utf8_of (quoted joined indent (drop at s)) → n ≡ length (quoted_text joined indent (drop at s))
        → next ≤ length s → next ≡ at + n + 3 → quoted_text joined indent (drop at s) ≡ take n (drop (at + 1) s)
    straight e l h k =
        let a : length (drop at s) ≡ length s - at = length-drop at s in
        let b : length (drop next s) ≡ length s - next = length-drop next s in
        rw (← drop-drop 1 at s, l) (sym (opened (drop at s) (quoted_text joined indent (drop at s)) (drop next s) (sym e) (omega arith)))
