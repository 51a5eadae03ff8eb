-- The goals of `rows_of` that are answered by hand; what its loop keeps, and what falls, is in Invariants.antt.
use Rattle.std.proofs.Common.{◌-◌, arith, rules}
use Rattle.test_rows.specs.Flats.{flat_none, fetched_on, fetched_all}
use Rattle.test_rows.proofs.rows_of.Goals as goal

pub loop-i-init : goal.loop-i-init
loop-i-init c = (search rules, search rules, flat_none)

pub loop-i-preserved : goal.loop-i-preserved
loop-i-preserved c =
    (search rules, search rules, fetched_on c.loop-i.rows c.loop-i.i _ _ (search rules) c.loop-i.invariant.2 c.row_at.ensures)

pub returns : goal.returns
returns c = fetched_all c.loop-i.rows c.loop-i.i c.args.n _ c.loop-i.invariant.2 (omega arith)
