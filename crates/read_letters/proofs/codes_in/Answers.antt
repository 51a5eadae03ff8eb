-- The goals of `codes_in` that are answered by hand; what its loop keeps, and what falls, is in Invariants.antt.
use Rattle.std.proofs.Common.{◌-◌, ◌≡◌, sym, arith, rules}
use Rattle.spec_bases.specs.Bases.{coded}
use Rattle.read_letters.proofs.Passing.{in-none, one_small, one_counted}
use Rattle.read_letters.proofs.codes_in.Goals as goal

pub loop-j-init : goal.loop-j-init
loop-j-init c = (search rules, search rules, sym (in-none _ _ _))

pub overflow_add-n : goal.overflow_add-n
overflow_add-n c = omega (arith, one_small _ _ _ c.is_coded.ensures c.one_if-n.ensures)

pub loop-j-preserved : goal.loop-j-preserved
loop-j-preserved c =
    let c4 = c in (
      omega arith,
      omega (arith, one_small _ _ _ c.is_coded.ensures c.one_if-n.ensures),
      one_counted coded _ _ _ _ _ _ c4.loop-j.invariant.2 c.is_coded.ensures c.one_if-n.ensures,
    )

pub returns : goal.returns
returns c = let e : c.loop-j.j ≡ 65 = omega arith in rw e at c.loop-j.invariant.2
