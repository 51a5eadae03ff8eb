-- `write_wrap_location::put_commas` meets its contract.
use Rattle.std.proofs.Common.{◌+◌, ◌*◌, ◌≤◌, length, eqb}
use Rattle.spec_format.specs.Bytes.{pick}
use Rattle.spec_format.specs.Wrap.{comma_lines}
use Rattle.write_wrap_location.specs.Commas.{CommasLeft}
use Rattle.write_wrap_location.proofs.put_commas.Given as goal

abbrev pub invariant-loop-used : goal.invariant-loop-used
invariant-loop-used l =
    (length l.rest ≤ length l.text) × (l.used ≤ 33554432)
    × CommasLeft l.initial.out l.at (comma_lines (length l.text) l.width l.indent l.taken l.text) l.out l.p l.width l.indent l.used l.rest

abbrev pub decreases-loop-used : goal.decreases-loop-used
decreases-loop-used l = 2 * length l.rest + pick (eqb l.used l.indent) 0 1
