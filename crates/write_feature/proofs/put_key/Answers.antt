-- `write_feature::put_key` meets its contract.
use Rattle.base_pen.specs.Pen.{writes_append}
use Rattle.write_feature.proofs.put_key.Goals as goal

pub returns : goal.returns
returns c =
    let c6 = c in
    let c10 = c6 in
    writes_append (writes_append c10.put_spaces-a.ensures c6.put-b.ensures) c.put_all.ensures
