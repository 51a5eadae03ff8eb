-- `write_locus_parts::put_topology` meets its contract.
use Rattle.write_locus_parts.proofs.put_topology.Goals as goal

pub returns-then-circular : goal.returns-then-circular
returns-then-circular c = simp c.if-circular.true c.put_all.ensures

pub returns : goal.returns
returns c = simp c.if-circular.false c.put_all-2.ensures
