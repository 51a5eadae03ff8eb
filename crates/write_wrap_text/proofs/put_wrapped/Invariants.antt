-- `write_wrap_text::put_wrapped` meets its contract.
use Rattle.std.proofs.Common.{◌+◌, ◌*◌, ◌≤◌, length, eqb}
use Rattle.spec_format.specs.Bytes.{pick}
use Rattle.spec_format.specs.Wrap.{wrapped}
use Rattle.write_wrap_text.specs.Loop.{TextLeft}
use Rattle.write_wrap_text.proofs.put_wrapped.Given as goal

abbrev pub invariant-loop-rest : goal.invariant-loop-rest
invariant-loop-rest l =
    (length l.rest ≤ length l.text) × (l.used ≤ 33554432)
    × TextLeft l.initial.out l.at (wrapped l.quote l.width l.indent l.taken l.text) l.out l.p l.quote l.width l.indent l.used l.rest

abbrev pub decreases-loop-rest : goal.decreases-loop-rest
decreases-loop-rest l = 2 * length l.rest + pick (eqb l.used l.indent) 0 1
