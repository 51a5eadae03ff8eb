-- A location or a bare value, written and read.
use Prim.Native.Nat.{ℕ, zero, suc, ◌+◌, ◌-◌, ◌<◌, ◌≤◌}
use Rattle.std.proofs.Common.{arith, length-drop, take-append-drop, leb-false}
use Rattle.std.specs.Prelude.{Bool, ◌≡◌, take, drop, eqb}
use Rattle.std.proofs.Math.Bool.{true, false}
use Rattle.std.proofs.Math.Path.{refl}
use mathlib.Core.List.{List, [], ◌∷◌, ◌++◌, append-nil}
use Rattle.std.proofs.Math.ListN.{length}
use Rattle.std.proofs.Math.Dec.{leb}
use Rattle.spec_format.specs.Bytes.{spaces, some, all, visible, but}
use Rattle.spec_format.specs.Readers.{got, no, bind, tag}
use Rattle.spec_format.specs.Features.{not_slash, bare_more, bare}
use Rattle.spec_format.specs.Wrap.{break_at, comma_lines}
use Rattle.spec_texts_back.specs.Tests.{all_left, all_right, all_imp, all_first, some_pos}
use Rattle.spec_texts_back.specs.Pieces.{no_end, line_back, visible_no_end}
use Rattle.spec_texts_back.specs.FieldBack.{commas_short, commas_long}
use Rattle.spec_texts_back.specs.Joins.{joining, joining_stop}
use Rattle.spec_format.specs.Impossible.{impossible}
use Rattle.spec_texts_back.specs.BareBack.{ends, Break, breaks, Lines, lines_bare, lines_more, commas_starts}

ends_peek : (n : ℕ) (s : List ℕ) → ends n s ≡ true → bind (tag (spaces n) s) (λ _ r. not_slash r) ≡ no
unfolding tag
ends_peek zero [] h = refl
ends_peek zero (b ∷ s) h = cc
ends_peek (suc n) [] h = cc
ends_peek (suc n) (b ∷ s) h = go (ends_peek n s) (eqb b 32) refl
  where
    go : (ends n s ≡ true → bind (tag (spaces n) s) (λ _ r. not_slash r) ≡ no) → (x : Bool) → eqb b 32 ≡ x → bind (tag (spaces (suc n)) (b ∷ s)) (λ _ r. not_slash r) ≡ no
    go ih true p = rw (tag, p) (ih (cc))
    go ih false p = rw (tag, p)

module _ (indent : ℕ) where
  -- further lines, from the line's indent on
  further_off : (s : List ℕ) → ends indent s ≡ true → joining (bare_more indent) s ≡ got [] s
  further_off s h = joining_stop (bare_more indent) s s (rw (ends_peek indent s h))

module _ (indent : ℕ) (rest : List ℕ) where
  pub lines_one : (t : List ℕ) → ends indent rest ≡ true → all no_end t ≡ true → Lines indent (t ++ 10 ∷ rest) t rest
  lines_one t h k = record { first = t; left = rest; later = []; begins = line_back t rest k; goes = further_off indent rest h; text = append-nil t }

  -- a bare value of one line
  pub line_bare : (t : List ℕ) → ends indent rest ≡ true → all no_end t ≡ true → bare indent (t ++ 10 ∷ rest) ≡ got t rest
  line_bare t h k = lines_bare indent rest (t ++ 10 ∷ rest) t (lines_one t h k)

module _ (W indent : ℕ) where
  module _ (w : indent < W) (rest : List ℕ) (fine : ends indent rest ≡ true) where
    commas_lines :
        (n used : ℕ) (t : List ℕ) → used < W → some t ≡ true → all visible t ≡ true → all (but 47) t ≡ true → length t ≤ n →
        Lines indent (comma_lines n W indent used t ++ rest) t rest
    commas_lines zero used [] l s h o k = impossible cc
    commas_lines zero used (c ∷ t) l s h o k = absurd (omega arith)
    commas_lines (suc n) used t l s h o k = go (λ r. commas_lines n indent r w) (leb (used + length t) W) refl
      where
        go :
            ((r : List ℕ) → some r ≡ true → all visible r ≡ true → all (but 47) r ≡ true → length r ≤ n →
            Lines indent (comma_lines n W indent indent r ++ rest) r rest) → (x : Bool) → leb (used + length t) W ≡ x →
            Lines indent (comma_lines (suc n) W indent used t ++ rest) t rest
        go ih true p = rw (commas_short W indent n used t rest p) (lines_one indent rest t fine (all_imp visible no_end visible_no_end t h))
        go ih false p =
            let over : W < used + length t = leb-false (used + length t) W p in
            let m : ℕ = break_at (W - used) t in
            let b : Break (W - used) t = breaks (W - used) t (omega arith) in
            let f : List ℕ = take m t in
            let r : List ℕ = drop m t in
            let j : f ++ r ≡ t = take-append-drop m t in
            let a : all visible (f ++ r) ≡ true = rw j h in
            let o' : all (but 47) (f ++ r) ≡ true = rw j o in
            let or : all (but 47) r ≡ true = all_right (but 47) f r o' in
            let lr : length r ≡ length t - m = length-drop m t in
            let sr : some r ≡ true = some_pos r (omega arith) in
            let x : List ℕ = comma_lines n W indent indent r ++ rest in
            rw (commas_long W indent n used t rest p)
            (rw j at (lines_more indent rest f r x (all_imp visible no_end visible_no_end f (all_left visible f r a))
            (commas_starts W indent (but 47) n indent r rest w (all_first (but 47) r sr or)) (ih r sr (all_right visible f r a) or (omega arith))))

    -- a location or a comma-broken value
    pub commas_back :
        (n used : ℕ) (t : List ℕ) → used < W → some t ≡ true → all visible t ≡ true → all (but 47) t ≡ true → length t ≤ n →
        bare indent (comma_lines n W indent used t ++ rest) ≡ got t rest
    commas_back n used t l s h o k = lines_bare indent rest (comma_lines n W indent used t ++ rest) t (commas_lines n used t l s h o k)
