-- `write_feature::put_feature` meets its contract.
use Rattle.base_pen.specs.Pen.{writes_append, writes_as}
use Rattle.write_feature.specs.Lines.{feature_is}
use Rattle.write_feature.proofs.put_feature.Goals as goal

pub returns : goal.returns
returns c =
    let c4 = c in
    let c7 = c4 in
    let c11 = c7 in
    let c15 = c11 in
    let c20 = c15 in
    writes_as (feature_is c20.args.width c20.args.kind.now c20.args.location.now _ (rw c4.left_of.ensures)) (writes_append (writes_append (writes_append c15.put_spaces-a.ensures c11.put_padded-b.ensures) c7.put-d.ensures) c.put_commas.ensures)
