-- `read_locus_tokens::decimal_in` meets its contract. The invariant: the answer of the whole is the answer from here. Assumes nothing.
use Rattle.std.proofs.Common.{◌^◌, ◌-◌, ◌≤◌, ◌<◌, ◌≡◌, length, drop}
use Rattle.read_locus_tokens.specs.Parts.{digits_after}
use Rattle.read_locus_tokens.proofs.decimal_in.Given as goal

abbrev pub invariant-loop-i : goal.invariant-loop-i
invariant-loop-i l = (l.i ≤ length l.t) × (l.v < 10 ^ l.i) × (digits_after 0 l.t ≡ digits_after l.v (drop l.i l.t))

abbrev pub decreases-loop-i : goal.decreases-loop-i
decreases-loop-i l = length l.t - l.i
