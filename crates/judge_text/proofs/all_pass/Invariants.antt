-- What is left of the text tells of the whole.
use Rattle.std.proofs.Common.{ℕ, Bool, ◌≡◌}
use Rattle.std.specs.Slice.Iter.{chunks_rest, chunks_size}
use Rattle.spec_format.specs.Bytes.{all}
use Rattle.judge_text.specs.contracts.all_pass.F-Fn as F
use Rattle.judge_text.proofs.all_pass.Given as goal

abbrev pub invariant-loop-block : goal.invariant-loop-block
invariant-loop-block g l =
    (chunks_size l.block-iterator ≡ 256)
    × ((p : ℕ → Bool) → ((b : ℕ) (r : Bool) → (F.words g.row.F g.F.Fn).post l.test b r → r ≡ p b) → all p l.s ≡ all p (chunks_rest l.block-iterator))
