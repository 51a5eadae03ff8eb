-- A text passes as its blocks do, one after the other.
use Rattle.std.proofs.Common.{ℕ, Bool, true, false, ◌&&◌, ◌≡◌, List, [], ◌∷◌, ◌++◌, length, refl, sym, ap, ◌∙◌}
use Rattle.std.specs.Slice.Iter.{chunks_rest}
use Rattle.spec_format.specs.Bytes.{all}
use Rattle.spec_format.specs.Impossible.{impossible}
use Rattle.judge_text.proofs.all_pass.Goals as goal

block_first : (p : ℕ → Bool) (x y : List ℕ) → all p (x ++ y) ≡ (all p x && all p y)
block_first p [] y = refl
block_first p (b ∷ x) y = go (p b) (block_first p x y)
  where
    go : (c : Bool) → all p (x ++ y) ≡ (all p x && all p y) → (c && all p (x ++ y)) ≡ ((c && all p x) && all p y)
    go true e = e
    go false e = refl

nothing_left : (p : ℕ → Bool) (x : List ℕ) → length x ≡ 0 → true ≡ all p x
nothing_left p [] e = refl
nothing_left p (b ∷ x) e = impossible cc

pub loop-block-init : goal.loop-block-init
loop-block-init g c =
    rw (c.into_iter-block-iterator.ensures.into_iter_gives) (c.chunks-block-items.ensures.size, λ p h. ap (all p) (sym c.chunks-block-items.ensures.rest))

pub returns-then-not-block_passes : goal.returns-then-not-block_passes
returns-then-not-block_passes g c p h =
    sym (c.loop-block.invariant.1 p h ∙ ap (all p) c.in-Some.ensures.steps.1.0 ∙ block_first p c.in-Some.block.now (chunks_rest c.next.new.self)
    ∙ ap (λ b. b && all p (chunks_rest c.next.new.self)) (sym (c.block_passes.ensures p h) ∙ c.if-not-block_passes.true))

pub loop-block-preserved : goal.loop-block-preserved
loop-block-preserved g c = (
  c.in-Some.ensures.steps.0 ∙ c.loop-block.invariant.0,
  λ p h. c.loop-block.invariant.1 p h ∙ ap (all p) c.in-Some.ensures.steps.1.0 ∙ block_first p c.in-Some.block.now (chunks_rest c.next.new.self)
      ∙ ap (λ b. b && all p (chunks_rest c.next.new.self)) (sym (c.block_passes.ensures p h) ∙ c.if-not-block_passes.false),
)

pub returns : goal.returns
returns g c p h = nothing_left p (chunks_rest c.loop-block.block-iterator) c.in-None.ensures.steps.1.0 ∙ sym (c.loop-block.invariant.1 p h)
