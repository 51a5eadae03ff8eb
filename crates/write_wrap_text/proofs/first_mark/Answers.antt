-- `write_wrap_text::first_mark` meets its contract. Assumes nothing.
use Rattle.std.proofs.Common.{◌≡◌, ◌+◌, ◌-◌, ◌≤◌, ◌<◌, ℕ, List, ◌++◌, length, get_or, take, drop, length-append, length-drop, length-take-le, drop-drop, sym, ap, ◌∙◌, arith, lt_of_not-le}
use Rattle.std.proofs.lemmas.List.{get_or-drop, get_or-take, get_or_append_left}
use Rattle.std.proofs.Math.Decide.{dec_le}
use Rattle.std.proofs.Math.Seq.{drop-append_seam}
use Rattle.std.specs.Slice.Iter.{chunks_exact_rest}
use Rattle.write_wrap_text.specs.Straight.{Plain}
use Rattle.write_wrap_text.proofs.first_mark.Goals as goal

-- all of the first n, and all of the m after them
plain_before : (d : ℕ) (t : List ℕ) (n m : ℕ) → ((k : ℕ) → k < n → Plain d (get_or t k 0)) → ((k : ℕ) → k < m → Plain d (get_or t (n + k) 0))
    → (k : ℕ) → k < n + m → Plain d (get_or t k 0)
plain_before d t n m f g k l =
    elim (dec_le n k) [
      | yes y ↦ (let z : n + (k - n) ≡ k = omega arith in rw z at (g (k - n) (omega arith)))
      | no y ↦ f k (lt_of_not-le y)
    ]

-- a block b of t from n on, with r after it
module _ (t b r : List ℕ) (n : ℕ) (e : drop n t ≡ b ++ r) where
  block_at : (k : ℕ) → k < length b → get_or t (n + k) 0 ≡ get_or b k 0
  block_at k h = sym (get_or-drop n t k 0) ∙ ap (λ l. get_or l k 0) e ∙ get_or_append_left b r 0 k h

  block_inside : length b ≤ length t - n
  block_inside = omega (arith, length-drop n t, ap length e, length-append b r)

  block_after : r ≡ drop (n + length b) t
  block_after = sym (drop-append_seam b r) ∙ ap (drop (length b)) (sym e) ∙ drop-drop (length b) n t

-- what `t[n..]` is
module _ (t : List ℕ) (n : ℕ) (h : n ≤ length t) where
  part_length : length (take (length t - n) (drop n t)) ≡ length t - n
  part_length = length-take-le (length t - n) (drop n t) (omega (arith, length-drop n t))

  part_at : (k : ℕ) → k < length t - n → get_or (take (length t - n) (drop n t)) k 0 ≡ get_or t (n + k) 0
  part_at k l = get_or-take (length t - n) (drop n t) k 0 l ∙ get_or-drop n t k 0

  -- a byte of it is one of the text
  of_part : (d m : ℕ) → m ≤ length t - n → ((k : ℕ) → k < m → Plain d (get_or (take (length t - n) (drop n t)) k 0)) → (k : ℕ) → k < m → Plain d (get_or t (n + k) 0)
  of_part d m g f k l = rw (part_at k (omega arith)) at (f k l)

  all_of_part : (d : ℕ) → ((k : ℕ) → k < length (take (length t - n) (drop n t)) → Plain d (get_or (take (length t - n) (drop n t)) k 0))
      → (k : ℕ) → k < length t - n → Plain d (get_or t (n + k) 0)
  all_of_part d f k l = rw (part_at k l) at (f k (rw part_length l))

pub loop-block-preserved : goal.loop-block-preserved
loop-block-preserved c =
    let i = c.loop-block.invariant in
    let s = c.in-Some.ensures.steps in
    let t = c.args.text.now in
    let b = c.in-Some.block.now in
    let r = chunks_exact_rest c.next.new.self in
    let n = c.loop-block.from in
    let e : drop n t ≡ b ++ r = sym i.1 ∙ s.1.0 in
    let w : length b ≡ 16 = s.1.1 ∙ i.0 in
    let h : length b ≤ length t - n = block_inside t b r n e in (
      s.0 ∙ i.0,
      block_after t b r n e ∙ ap (λ m. drop (n + m) t) w,
      omega arith,
      plain_before c.args.mark t n 16 i.3 (λ k l. rw (← (block_at t b r n e k (omega arith))) at (c.markless.ensures (c.if-not-markless.false) k (omega arith))),
    )

pub returns-then-markless : goal.returns-then-markless
returns-then-markless c k l =
    let t = c.args.text.now in
    let n = c.loop-block.from in
    let m = length t - 16 in
    let f = all_of_part t m (omega arith) c.args.mark (c.markless-then-text-ge16.ensures (c.if-markless.true)) in
    elim (dec_le m k) [
      | yes y ↦ (let z : m + (k - m) ≡ k = omega arith in rw z at (f (k - m) (omega arith)))
      | no y ↦ c.loop-block.invariant.3 k (omega (arith, lt_of_not-le y))
    ]

pub returns-in-Some-mark_in : goal.returns-in-Some-mark_in
returns-in-Some-mark_in c =
    let i = c.loop-block.invariant in
    let t = c.args.text.now in
    let n = c.loop-block.from in
    let d = c.args.mark in
    let f = c.in-Some-mark_in.ensures in
    let k = c.in-Some-mark_in.k in
    let h : k < length t - n = omega (arith, part_length t n i.2, f.0) in
    (omega arith, λ x. f.1 (rw (part_at t n i.2 k h) x), plain_before d t n k i.3 (of_part t n i.2 d k (omega arith) f.2))

pub returns-in-None-mark_in : goal.returns-in-None-mark_in
returns-in-None-mark_in c k l =
    let i = c.loop-block.invariant in
    let t = c.args.text.now in
    let n = c.loop-block.from in
    plain_before c.args.mark t n (length t - n) i.3 (all_of_part t n i.2 c.args.mark c.in-None-mark_in.ensures) k (omega arith)
