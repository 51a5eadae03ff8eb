-- The texts are the same if they are from i on.
use Rattle.std.proofs.Common.{drop, ◌≡◌}
use Rattle.spec_format.specs.Bytes.{same}
use Rattle.base_keys.proofs.same_text.Given as goal

abbrev pub invariant-loop-i : goal.invariant-loop-i
invariant-loop-i l = same l.a l.b ≡ same (drop l.i l.a) (drop l.i l.b)
