-- No b stands in the blocks after.
use Rattle.std.proofs.Common.{◌≡◌, ◌≢◌, ◌++◌, ◌≤◌, ◌<◌, ℕ, length, take, slice_index}
use Rattle.std.specs.Slice.Exact.{rchunks_exact_rest, rchunks_exact_remainder, rchunks_exact_size}
use Rattle.write_wrap_text.proofs.last_of.Given as goal

abbrev pub invariant-loop-block : goal.invariant-loop-block
invariant-loop-block l =
    (rchunks_exact_size l.block-iterator ≡ 16) × (rchunks_exact_remainder l.block-iterator ++ rchunks_exact_rest l.block-iterator ≡ take l.end l.text) × (l.end ≤ length l.text)
    × ((k : ℕ) → l.end ≤ k → k < length l.text → slice_index l.text k ≢ l.b)
