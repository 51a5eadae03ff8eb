-- The three parts of the line.
use Rattle.write_locus.specs.Line.{line_with}
use Rattle.base_pen.specs.Pen.{writes_append}
use Rattle.spec_format.specs.Rooms.{table_of}
use Rattle.write_locus.proofs.put_locus.Goals as goal

pub returns : goal.returns
unfolding line_with table_of
returns c =
    let c6 = c in
    let c10 = c6 in
    writes_append (writes_append c10.put_start-a.ensures c6.put_middle-b.ensures) c.put_line_end.ensures
