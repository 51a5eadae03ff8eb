-- Molecule type and topology, one after the other.
use Rattle.write_locus.specs.Line.{line_middle}
use Rattle.base_pen.specs.Pen.{writes_append}
use Rattle.write_locus.proofs.put_middle.Goals as goal

pub returns : goal.returns
unfolding line_middle
returns c =
    let c6 = c in
    let c10 = c6 in
    let c14 = c10 in
    writes_append (writes_append (writes_append c14.put_molecule_text-a.ensures c10.put-b.ensures) c6.put_topology-c.ensures) c.put.ensures
