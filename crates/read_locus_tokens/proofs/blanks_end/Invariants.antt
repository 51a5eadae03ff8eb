-- `read_locus_tokens::blanks_end` meets its contract. The invariant: the answer of the whole is the answer from here. Assumes nothing.
use Rattle.std.proofs.Common.{◌+◌, ◌-◌, ◌≤◌, ◌≡◌}
use Rattle.spec_format.specs.Bytes.{blank}
use Rattle.read_locus_tokens.specs.Parts.{cut, passed}
use Rattle.read_locus_tokens.proofs.blanks_end.Given as goal

abbrev pub invariant-loop-i : goal.invariant-loop-i
invariant-loop-i l = (l.at ≤ l.i) × (l.i ≤ l.to) × (l.at + passed blank (cut l.s l.at l.to) ≡ l.i + passed blank (cut l.s l.i l.to))

abbrev pub decreases-loop-i : goal.decreases-loop-i
decreases-loop-i l = l.to - l.i
