-- The count of lines: LF in a text and its parts, and how many lines end before a place, after a line and after the next LF.
use Prim.Native.Nat.{ℕ, zero, suc, ◌≤◌, ◌<◌, ◌+◌, ◌-◌}
use native.Mathlib.Omega.{arith}
use mathlib.Core.Bool.{Bool, true, false}
use mathlib.Core.Path.{◌≡◌, refl, sym, ap, ◌∙◌}
use mathlib.Core.List.{List, [], ◌∷◌, ◌++◌}
use lib.ListN.{length, drop, take, length-drop, take-append-drop, drop_of_length-le}
use lib.Seq.{take-add, take-nil}
use lib.Dec.{eqb}
use Rattle.spec_format.specs.Impossible.{impossible}
use Rattle.spec_format.specs.Readers.{Ans, got, no, cut, line_feed, line}
use Rattle.spec_lines.specs.Lines.{feeds}
use Rattle.scan_bytes.specs.Places.{part}
use Rattle.scan_bytes.specs.Views.{Lined}
use Rattle.scan_bytes.specs.Sequence.{line_is}
use Rattle.scan_bytes.specs.declared.Line.{Line}
use Rattle.scan_bytes.specs.declared.Line.TheVariants as lines
use Rattle.scan_lines.specs.Reached.{after_line, after_feed, ended, line_more, one_of, feed_more}

no_feeds : feeds [] ≡ 0
unfolding feeds
no_feeds = refl

pub feeds_append : (a b : List ℕ) → feeds (a ++ b) ≡ feeds a + feeds b
unfolding feeds
feeds_append [] b = omega arith
feeds_append (x ∷ a) b = go (feeds_append a b) (eqb x 10) refl
  where
    go : feeds (a ++ b) ≡ feeds a + feeds b → (y : Bool) → eqb x 10 ≡ y → feeds (x ∷ a ++ b) ≡ feeds (x ∷ a) + feeds b
    go ih true e = rw (feeds, e) (omega arith)
    go ih false e = rw (feeds, e) ih

-- the lines that end before a place, and those from it on
pub ended_rest : (s : List ℕ) (p : ℕ) → ended s p + feeds (drop p s) ≡ feeds s
ended_rest s p = sym (feeds_append (take p s) (drop p s)) ∙ ap feeds (take-append-drop p s)

-- from a place to a later one
pub ended_more : (s : List ℕ) (p k : ℕ) → p ≤ k → ended s k ≡ ended s p + feeds (part p k s)
ended_more s p k h =
    let e : p + (k - p) ≡ k = omega arith in
    ap (ended s) (sym e) ∙ ap feeds (take-add p (k - p) s) ∙ feeds_append (take p s) (part p k s)

-- ---- a line

line_one : (s t r : List ℕ) → line s ≡ got t r → feeds s ≡ suc (feeds r)
unfolding line feeds
line_one [] t r h = impossible cc
line_one (b ∷ s) t r h = go (line_one s) (eqb b 10) refl (eqb b 13) refl (line s) refl
  where
    cut_lem : (s : List ℕ) → line_feed s ≡ got t r → feeds s ≡ suc (feeds r)
    cut_lem [] q = impossible cc
    cut_lem (c ∷ z) q = at (eqb c 10) refl
      where
        at : (x : Bool) → eqb c 10 ≡ x → feeds (c ∷ z) ≡ suc (feeds r)
        at true e = cc
        at false e = let g = rw e at q in impossible cc

    go : ((t r : List ℕ) → line s ≡ got t r → feeds s ≡ suc (feeds r)) → (x : Bool) → eqb b 10 ≡ x → (y : Bool) → eqb b 13 ≡ y → (a : Ans (List ℕ)) → line s ≡ a → feeds (b ∷ s) ≡ suc (feeds r)
    go ih true e y f a l = cc
    go ih false e true f a l = let q : line_feed s ≡ got t r = cc in rw (feeds, e) (cut_lem s q)
    go ih false e false f (got u z) l = let q : r ≡ z = cc in rw (feeds, e, q) (ih u z l)
    go ih false e false f no l = impossible cc
    go ih false e false f cut l = impossible cc

-- a line that was read is one more
pub counts_line : (s : List ℕ) (at : ℕ) (r : Line) → Lined s at (line (drop at s)) r → ended s (after_line at r) ≡ ended s at + line_more r
counts_line s at (lines.Got e n) h =
    let a = ended_rest s at in
    let b = ended_rest s n in
    let c : feeds (drop at s) ≡ suc (feeds (drop n s)) = line_one (drop at s) _ (drop n s) (line_is h refl) in
    omega arith
counts_line s at lines.No h = omega arith
counts_line s at lines.Cut h = omega arith

-- ---- the next LF

one_feed : (s : List ℕ) → feeds s ≡ one_of (feeds s) + feeds (after_feed s)
unfolding feeds after_feed
one_feed [] = omega arith
one_feed (b ∷ s) = go (one_feed s) (eqb b 10) refl
  where
    go : feeds s ≡ one_of (feeds s) + feeds (after_feed s) → (x : Bool) → eqb b 10 ≡ x → feeds (b ∷ s) ≡ one_of (feeds (b ∷ s)) + feeds (after_feed (b ∷ s))
    go ih true e = rw (feeds, after_feed, e) (omega arith)
    go ih false e = rw (feeds, after_feed, e) ih

before_feed : (s : List ℕ) (k : ℕ) → k + length (after_feed s) < length s → feeds (take k s) ≡ 0
unfolding feeds after_feed
before_feed [] k h = absurd (omega arith)
before_feed (b ∷ s) zero h = refl
before_feed (b ∷ s) (suc k) h = go (before_feed s k) (eqb b 10) refl
  where
    go : (k + length (after_feed s) < length s → feeds (take k s) ≡ 0) → (x : Bool) → eqb b 10 ≡ x → feeds (b ∷ take k s) ≡ 0
    go ih true e = let g = rw (after_feed, e) at h in absurd (omega arith)
    go ih false e = let g = rw (after_feed, e) at h in rw (feeds, e) (ih (omega arith))

module _ (s : List ℕ) (at r : ℕ) (is : drop r s ≡ after_feed (drop at s)) (from : at ≤ r) (within : at ≤ length s → r ≤ length s) where
  pub counts_feed : ended s r ≡ ended s at + feed_more s at
  counts_feed =
      let a = ended_rest s at in
      let b : ended s r + feeds (after_feed (drop at s)) ≡ feeds s = rw (← is) (ended_rest s r) in
      let c = one_feed (drop at s) in
      omega arith

  pub counts_inside : (k : ℕ) → at ≤ k → k < r → ended s k ≡ ended s at
  counts_inside k l m = go (length s - at) refl
    where
      none : feeds (part at k s) ≡ 0 → ended s k ≡ ended s at
      none z = let e = ended_more s at k l in omega arith

      go : (n : ℕ) → length s - at ≡ n → ended s k ≡ ended s at
      go zero n = none (rw (drop_of_length-le s {i = at} (omega arith), take-nil {A = ℕ} (k - at)) no_feeds)
      go (suc n) q =
          let i : r ≤ length s = within (omega arith) in
          let a : length (drop at s) ≡ length s - at = length-drop at s in
          let b : length (after_feed (drop at s)) ≡ length s - r = rw (← is) (length-drop r s) in
          none (before_feed (drop at s) (k - at) (omega arith))
