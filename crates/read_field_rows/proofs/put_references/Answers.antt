-- `read_field_rows::put_references` meets its contract. Assumes nothing.
use Rattle.std.proofs.Common.{drop}
use Rattle.spec_format.specs.Header.{reference_in}
use Rattle.spec_format.specs.Rooms.{reference_pieces}
use Rattle.read_field_all.specs.Gathered.{fields_at}
use Rattle.read_field_rows.proofs.Walking.{laid_room, laid}
use Rattle.read_field_rows.proofs.put_references.Goals as goal

pub put_fields-pens-requires : goal.put_fields-pens-requires
put_fields-pens-requires c =
    let a = c.args in
    let pre = c.requires in
    (pre.0, laid_room reference_in reference_pieces (fields_at (drop a.at a.s.now)) _ pre.1 pre.2)

pub returns : goal.returns
returns c =
    let a = c.args in
    let put-fields = c.put_fields-pens.ensures in
    laid reference_in reference_pieces (fields_at (drop a.at a.s.now)) _ _ _ _ _ _ put-fields
