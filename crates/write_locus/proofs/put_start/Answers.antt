-- The parts up to the molecule type, one after the other.
use Rattle.write_locus.specs.Line.{chosen_in, start_with}
use Rattle.base_pen.specs.Pen.{writes_append, writes_as}
use Rattle.write_locus.proofs.put_start.Goals as goal

pub put_name-b-requires : goal.put_name-b-requires
put_name-b-requires c =
    let c10 = c in
    (c10.requires.1, chosen_in c10.args.texts.now c10.args.head.name c10.args.head.accession _ c.chosen_name.ensures c10.requires.0.name c10.requires.0.accession)

pub returns : goal.returns
returns c =
    let c7 = c in
    let c8 = c7 in
    let c12 = c8 in
    let c15 = c12 in
    let c18 = c15 in
    writes_as (start_with c18.args.truncate c18.args.escape c18.args.texts.now c18.args.head _ _ c15.printed_length-n.ensures c8.chosen_name.ensures) (writes_append (writes_append c12.put_all-a.ensures c7.put_name-b.ensures) c.put_all.ensures)
