-- `read_locus_tokens::plain` meets its contract. The invariant: the answer of the whole is the answer from here. Assumes nothing.
use Rattle.std.proofs.Common.{◌-◌, ◌≤◌, ◌≡◌}
use Rattle.spec_format.specs.Bytes.{all}
use Rattle.read_locus_tokens.specs.Parts.{cut, plain_byte}
use Rattle.read_locus_tokens.proofs.plain.Given as goal

abbrev pub invariant-loop-i : goal.invariant-loop-i
invariant-loop-i l = (l.i ≤ l.to) × (all plain_byte (cut l.s l.from l.to) ≡ all plain_byte (cut l.s l.i l.to))

abbrev pub decreases-loop-i : goal.decreases-loop-i
decreases-loop-i l = l.to - l.i
