-- `write_locus_parts::put_molecule` meets its contract.
use Rattle.base_pen.specs.Pen.{writes_as}
use Rattle.write_locus_parts.specs.Locus.{molecule_long, molecule_short}
use Rattle.write_locus_parts.proofs.put_molecule.Goals as goal

pub returns-then-molecule-gt7 : goal.returns-then-molecule-gt7
returns-then-molecule-gt7 c =
    let c4 = c in
    let c5 = c4 in
    let c8 = c5 in
    simp c5.if-truncate.true (writes_as (molecule_long c8.args.molecule.now c4.if-molecule-gt7.true) c.put_spaces.ensures)

pub returns-then-truncate : goal.returns-then-truncate
returns-then-truncate c =
    let c4 = c in
    let c5 = c4 in
    let c8 = c5 in
    simp c5.if-truncate.true (writes_as (molecule_short c8.args.molecule.now c4.if-molecule-gt7.false) c.put_padded.ensures)

pub returns : goal.returns
returns c = simp c.if-truncate.false c.put_padded-2.ensures
