-- The goals of `ascii_in` that are answered by hand; what its loop keeps, and what falls, is in Invariants.antt.
use Rattle.std.proofs.Common.{◌-◌, ◌≡◌, arith, rules}
use Rattle.scan_utf8.specs.States.{ascii}
use Rattle.scan_bytes.specs.Parts.{part_none}
use Rattle.scan_utf8.specs.Every.{all_on}
use Rattle.scan_utf8.proofs.ascii_in.Goals as goal

pub loop-i-init : goal.loop-i-init
loop-i-init c = (search rules, search rules, rw (part_none c.args.s.now c.args.from c.args.from (omega arith)))

pub loop-i-preserved : goal.loop-i-preserved
loop-i-preserved c =
    let c4 = c in
    let c6 = c4 in
    (search rules, search rules, all_on ascii c6.args.s.now c6.args.from c4.loop-i.i _ _ _ (omega arith) (omega arith) c4.loop-i.invariant.2 c.is_ascii.ensures c.both-ok.ensures)

pub returns : goal.returns
returns c = let e : c.loop-i.i ≡ c.args.to = omega arith in rw e at c.loop-i.invariant.2
