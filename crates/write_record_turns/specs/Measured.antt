-- Number 6: a record is measured by a write to no room, and written only where it fits.
use Rattle.std.specs.Prelude.{ℕ, ◌+◌, ◌^◌, ◌≤◌, ◌<◌, ◌≡◌, List, length}
use Rattle.std.proofs.Common.{◌∙◌, arith}
use Rattle.std.proofs.lemmas.Bool.{lt-leb}
use Rattle.spec_format.specs.Answers.{room, slice_after}
use Rattle.spec_format.specs.declared.WriteAnswer.TheVariants as answer
use Rattle.base_pen.specs.Pen.{Writes, wrote_eq}

pub too_long : {l x n : List ℕ} {k : ℕ} (old : List ℕ) → Writes l 0 x n k → length x < 2 ^ 64 → length old < k → answer.Room k ≡ room (length old) (length x)
too_long {l} {x} {n} {k} old w s f =
    let e : k ≡ length x = omega (arith, (w.fit (omega arith)).to) in
    let g : length old < length x = omega arith in
    rw (lt-leb (length x) (length old) g, e)

pub put_whole : {x m : List ℕ} {k : ℕ} (old : List ℕ) → Writes old 0 x m k → length x < 2 ^ 64 → length x ≤ length old → m ≡ slice_after (answer.Done k) x old
put_whole {x} {m} {k} old v s f =
    let z : 0 + length x ≡ length x = omega arith in
    let fits : 0 + length x ≤ length old = omega arith in
    let fit : 0 + length x < 2 ^ 64 = omega arith in
    wrote_eq (v.fit fit) fits ∙ rw z
