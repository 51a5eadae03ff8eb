-- Neither LF nor mark stands in the blocks before.
use Rattle.std.proofs.Common.{◌≡◌, ◌≤◌, ◌<◌, ℕ, length, drop, slice_index}
use Rattle.std.specs.Slice.Iter.{chunks_exact_rest, chunks_exact_size}
use Rattle.write_wrap_text.specs.Straight.{Plain}
use Rattle.write_wrap_text.proofs.first_mark.Given as goal

abbrev pub invariant-loop-block : goal.invariant-loop-block
invariant-loop-block l =
    (chunks_exact_size l.block-iterator ≡ 16) × (chunks_exact_rest l.block-iterator ≡ drop l.from l.text) × (l.from ≤ length l.text)
    × ((k : ℕ) → k < l.from → Plain l.mark (slice_index l.text k))
