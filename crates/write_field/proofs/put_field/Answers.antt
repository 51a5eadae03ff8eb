-- `write_field::put_field` meets its contract.
use Rattle.std.proofs.Common.{rules}
use Rattle.base_pen.specs.Pen.{writes_append, writes_as}
use Rattle.write_field.specs.Field.{field_is}
use Rattle.write_field.proofs.put_field.Goals as goal

pub returns : goal.returns
returns c =
    let c6 = c in
    let c11 = c6 in
    writes_as (field_is c11.args.width c11.args.word.now c11.args.text.now (search rules)) (writes_append c6.put_padded-next.ensures c.put_wrapped.ensures)
