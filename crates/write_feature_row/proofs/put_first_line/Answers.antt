-- Two parts of the store.
use Rattle.std.proofs.Common.{length-take, length-drop, arith}
use Rattle.write_header.specs.Rows.{part_is}
use Rattle.write_feature_row.proofs.put_first_line.Goals as goal

pub put_feature-requires : goal.put_feature-requires
put_feature-requires c =
    let d = c in
    (simp (length-take, length-drop) (omega (arith, d.requires.0.small)), simp (length-take, length-drop) (omega (arith, d.requires.0.small)), d.requires.1, d.requires.2)

pub returns : goal.returns
returns c = simp part_is at c.put_feature.ensures
