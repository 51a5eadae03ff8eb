-- `write_wrap_text::last_of` meets its contract. Assumes nothing.
use Rattle.std.proofs.Common.{◌≡◌, ◌+◌, ◌-◌, ◌≤◌, ◌<◌, ℕ, Option, Some, None, List, ◌++◌, length, get_or, take, drop, append_assoc, length-append, length-take-le, take_all, sym, ap, ◌∙◌, arith, le_refl, lt_of_not-le}
use Rattle.std.specs.Prelude.{MatchOption}
use Rattle.std.proofs.lemmas.List.{get_or-take, get_or_append_left, take-append-drop}
use Rattle.std.proofs.Math.Decide.{dec_le}
use Rattle.std.proofs.Math.Seq.{take-append_seam, get_or-append_right}
use Rattle.std.specs.Slice.Exact.{rchunks_exact_rest, rchunks_exact_remainder}
use Rattle.write_wrap_text.proofs.last_of.Goals as goal

-- a block b that ends at n, with a before it
module _ (t a b : List ℕ) (n : ℕ) (e : a ++ b ≡ take n t) (h : n ≤ length t) where
  sizes : length a + length b ≡ n
  sizes = omega (arith, length-append a b, ap length e, length-take-le n t h)

  whole : a ++ (b ++ drop n t) ≡ t
  whole = sym (append_assoc a b (drop n t)) ∙ ap (λ l. l ++ drop n t) e ∙ take-append-drop n t

  before : a ≡ take (length a) t
  before = sym (take-append_seam a (b ++ drop n t)) ∙ ap (take (length a)) whole

  block_at : (k : ℕ) → length a ≤ k → k < n → get_or t k 0 ≡ get_or b (k - length a) 0
  block_at k l m =
      ap (λ x. get_or x k 0) (sym whole) ∙ get_or-append_right a (b ++ drop n t) k 0 l
      ∙ get_or_append_left b (drop n t) 0 (k - length a) (omega (arith, sizes))

-- the last among the first n, where none is after them
last_front : (o : Option ℕ) (t : List ℕ) (n d : ℕ) → n ≤ length t → ((k : ℕ) → n ≤ k → k < length t → get_or t k 0 ≡ d → ⊥)
    → MatchOption o ((k : ℕ) → k < length (take n t) → get_or (take n t) k 0 ≡ d → ⊥)
    (λ i. (i < length (take n t)) × (get_or (take n t) i 0 ≡ d) × ((k : ℕ) → i < k → k < length (take n t) → get_or (take n t) k 0 ≡ d → ⊥))
    → MatchOption o ((k : ℕ) → k < length t → get_or t k 0 ≡ d → ⊥) (λ i. (i < length t) × (get_or t i 0 ≡ d) × ((k : ℕ) → i < k → k < length t → get_or t k 0 ≡ d → ⊥))
last_front None t n d h f g =
    λ k l x.
    elim (dec_le n k) [
      | yes y ↦ f k y l x
      | no y ↦ (let z : k < n = lt_of_not-le y in g k (omega (arith, length-take-le n t h)) (get_or-take n t k 0 z ∙ x))
    ]
last_front (Some i) t n d h f g =
    let z : i < n = omega (arith, g.0, length-take-le n t h) in (
      omega arith,
      sym (get_or-take n t i 0 z) ∙ g.1,
      λ k a l x.
          elim (dec_le n k) [
            | yes y ↦ f k y l x
            | no y ↦ (let w : k < n = lt_of_not-le y in g.2 k a (omega (arith, length-take-le n t h)) (get_or-take n t k 0 w ∙ x))
          ],
    )

pub loop-block-init : goal.loop-block-init
loop-block-init c =
    let t = c.args.text.now in
    let p = c.rchunks_exact-block-items.ensures in
    rw c.into_iter-block-iterator.ensures.into_iter_gives (p.size, sym p.parts ∙ sym (take_all (length t) t (le_refl (length t))), le_refl (length t), λ k l m x. omega arith)

pub overflow_sub-end : goal.overflow_sub-end
overflow_sub-end c =
    let t = c.args.text.now in
    let i = c.loop-block.invariant in
    let s = c.in-Some.ensures.steps in
    let r = rchunks_exact_remainder c.loop-block.block-iterator in
    let q = rchunks_exact_rest c.next.new.self in
    let b = c.in-Some.block.now in
    let e : (r ++ q) ++ b ≡ take c.loop-block.end t = append_assoc r q b ∙ ap (λ l. r ++ l) (sym s.2.0) ∙ i.1 in
    omega (arith, sizes t (r ++ q) b c.loop-block.end e i.2, s.2.1, i.0)

pub loop-block-preserved : goal.loop-block-preserved
loop-block-preserved c =
    let t = c.args.text.now in
    let n = c.loop-block.end in
    let i = c.loop-block.invariant in
    let s = c.in-Some.ensures.steps in
    let r = rchunks_exact_remainder c.loop-block.block-iterator in
    let q = rchunks_exact_rest c.next.new.self in
    let b = c.in-Some.block.now in
    let e : (r ++ q) ++ b ≡ take n t = append_assoc r q b ∙ ap (λ l. r ++ l) (sym s.2.0) ∙ i.1 in
    let w : length b ≡ 16 = s.2.1 ∙ i.0 in
    let m : length (r ++ q) ≡ n - 16 = omega (arith, sizes t (r ++ q) b n e i.2) in (
      s.0 ∙ i.0,
      rw s.1 (before t (r ++ q) b n e i.2 ∙ ap (λ k. take k t) m),
      omega arith,
      λ k l h x.
          elim (dec_le n k) [
            | yes y ↦ i.3 k y h x
            | no y ↦ c.lacks.ensures c.if-not-lacks.false (k - length (r ++ q)) (omega (arith, lt_of_not-le y)) (sym (block_at t (r ++ q) b n e i.2 k (omega arith) (lt_of_not-le y)) ∙ x)
          ],
    )

pub returns-then-lacks : goal.returns-then-lacks
returns-then-lacks c k l x =
    let t = c.args.text.now in
    elim (dec_le 16 k) [
      | yes y ↦ c.loop-block.invariant.3 k (omega arith) l x
      | no y ↦ (let z : k < 16 = lt_of_not-le y in c.lacks-then-text-ge16.ensures c.if-lacks.true k (omega (arith, length-take-le 16 t (omega arith))) (get_or-take 16 t k 0 z ∙ x))
    ]

pub returns : goal.returns
returns c = last_front c.last_in.result c.args.text.now c.loop-block.end c.args.b c.loop-block.invariant.2 c.loop-block.invariant.3 c.last_in.ensures
