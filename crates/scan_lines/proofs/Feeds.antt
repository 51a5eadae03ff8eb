-- What stands from a place on, and after the next LF, a byte or 32 at a time.
use Prim.Native.Nat.{ℕ, zero, suc, ◌≤◌, ◌<◌, ◌+◌, ◌-◌}
use native.Mathlib.Nat.{not-suc-le-zero, le_of_suc-le-suc}
use native.Mathlib.Nat.{add-zero}
use native.Mathlib.Numerals.{add-one}
use native.Mathlib.Omega.{arith}
use mathlib.Core.Bool.{Bool, true, false, not, ◌&&◌}
use mathlib.Core.Path.{◌≡◌, refl, sym, ap, ◌∙◌}
use mathlib.Core.List.{List, [], ◌∷◌}
use lib.ListN.{length, get_or, drop, take, length-drop}
use lib.Seq.{drop-cons, take_all}
use lib.Dec.{eqb}
use borrow.Author.Tests.{eq-eqb, ne_eqb}
use Rattle.spec_format.specs.Readers.{line}
use Rattle.scan_bytes.specs.Views.{Lined}
use Rattle.scan_bytes.specs.declared.Line.{Line}
use Rattle.scan_bytes.specs.declared.Line.TheVariants as lines
use Rattle.scan_lines.specs.Reached.{after_line, after_feed, ended, Fetched, Feedless, Unfed, Fed}
use Rattle.spec_format.specs.Impossible.{impossible}
use Rattle.scan_lines.proofs.Counts.{counts_line, counts_feed, counts_inside}

pub drop_past : {X : Type 0} (s : List X) (i : ℕ) → length s ≤ i → drop i s ≡ []
drop_past [] zero l = refl
drop_past [] (suc i) l = refl
drop_past (x ∷ xs) zero l = absurd (not-suc-le-zero l)
drop_past (x ∷ xs) (suc i) l = drop_past xs i (le_of_suc-le-suc l)

pub rest_within : (s : List ℕ) (a : ℕ) → take (length s - a) (drop a s) ≡ drop a s
rest_within s a = take_all (length s - a) (drop a s) (omega (arith, length-drop a s))

drop_more : (s : List ℕ) (i : ℕ) → i < length s → drop i s ≡ get_or s i 0 ∷ drop (i + 1) s
drop_more s i h = rw (add-one, drop-cons s i 0)

-- ---- a line

-- past the end no line is begun
pub past_cut : (s : List ℕ) (at : ℕ) → length s < at → Fetched s at (record { line = lines.Cut; next = at })
unfolding line
past_cut s at h = record { is = record { is = sym (ap line (drop_past s at (omega arith))); place = tt }; moved = refl; counted = omega arith }

pub fetched : (s : List ℕ) (at : ℕ) (r : Line) (n : ℕ) → Lined s at (line (drop at s)) r → n ≡ after_line at r → Fetched s at (record { line = r; next = n })
fetched s at r n h e = record { is = h; moved = e; counted = ap (ended s) e ∙ counts_line s at r h }

pub ruleset fetching = (past_cut, fetched)

-- ---- the next LF

-- the count follows from the places
fed : (s : List ℕ) (at r : ℕ) → drop r s ≡ after_feed (drop at s) → at ≤ r → (at < length s → at < r) → (at ≤ length s → r ≤ length s) → Fed s at r
fed s at r is from further within =
    record { is = is; counted = counts_feed s at r is from within; inside = counts_inside s at r is from within; from = from; further = further; within = within }

not_true : (x : Bool) → not x ≡ true → x ≡ false
not_true true e = sym e
not_true false e = refl

not_false : (x : Bool) → not x ≡ false → x ≡ true
not_false true e = refl
not_false false e = sym e

module _ (s : List ℕ) (at i : ℕ) (inv : after_feed (drop at s) ≡ after_feed (drop i s)) where
  pub feed_here : at ≤ i → i < length s → get_or s i 0 ≡ 10 → Fed s at (i + 1)
  unfolding after_feed
  feed_here h l e = fed s at (i + 1) (sym (inv ∙ rw (drop_more s i l, after_feed, eq-eqb (get_or s i 0) 10 e))) (omega arith) (λ k. omega arith) (λ k. omega arith)

  pub feed_on : i < length s → (get_or s i 0 ≡ 10 → ⊥) → after_feed (drop at s) ≡ after_feed (drop (i + 1) s)
  unfolding after_feed
  feed_on l e = inv ∙ rw (drop_more s i l, after_feed, ne_eqb (get_or s i 0) 10 e)

  pub feed_none : at ≤ i → (at ≤ length s → i ≤ length s) → length s ≤ i → Fed s at i
  unfolding after_feed
  feed_none h w l = fed s at i (drop_past s i l ∙ sym (inv ∙ ap after_feed (drop_past s i l))) h (λ k. omega arith) w

  pub unfed_here : at ≤ i → i ≤ length s → Unfed s at i
  unfed_here h l = record { is = inv; from = h; within = λ _. l }

  pub block_on : (r : Bool) → Feedless s i 32 r → not r ≡ false → after_feed (drop at s) ≡ after_feed (drop (i + 32) s)
  block_on r h e = inv ∙ h.go (not_false r e)

pub unfed_past : (s : List ℕ) (at : ℕ) → length s < at → Unfed s at at
unfed_past s at h = record { is = refl; from = omega arith; within = λ k. k }

-- what `past_blocks` found, for the loop after it
module _ (s : List ℕ) (at i : ℕ) (h : Unfed s at i) where
  pub unfed_is : after_feed (drop at s) ≡ after_feed (drop i s)
  unfed_is = h.is

  pub unfed_from : at ≤ i
  unfed_from = h.from

  pub unfed_within : at ≤ length s → i ≤ length s
  unfed_within = h.within

pub ruleset feeding = (feed_here, feed_on, feed_none, unfed_is, unfed_from, unfed_within)

pub ruleset blocks = (unfed_here, block_on, unfed_past)

-- ---- bytes without LF

module _ (s : List ℕ) (at : ℕ) where
  pub feedless_none : Feedless s at 0 true
  feedless_none = record { go = λ _. rw (add-zero at) refl }

  pub feedless_on : (j : ℕ) (a b r : Bool) → at + j < length s → Feedless s at j a → b ≡ not (eqb (get_or s (at + j) 0) 10) → r ≡ a && b → Feedless s at (j + 1) r
  unfolding after_feed
  feedless_on j a b r l h e f = record { go = λ q. go a b h e (sym f ∙ q) }
    where
      go : (a b : Bool) → Feedless s at j a → b ≡ not (eqb (get_or s (at + j) 0) 10) → (a && b) ≡ true → after_feed (drop at s) ≡ after_feed (drop (at + (j + 1)) s)
      go true true h e q =
          let k : at + (j + 1) ≡ at + j + 1 = omega arith in
          rw k (h.go refl ∙ rw (drop_more s (at + j) l, after_feed, not_true (eqb (get_or s (at + j) 0) 10) (sym e)))
      go true false h e q = impossible cc
      go false b h e q = impossible cc
