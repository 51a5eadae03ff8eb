-- `write_locus_name::put_name_length` meets its contract.
use Rattle.write_locus_name.proofs.Laws.{gap_is}
use Rattle.base_pen.specs.Pen.{writes_as, writes_append, writes_then}
use Rattle.spec_format.specs.Write.{escaped_name}
use Rattle.write_locus_name.proofs.put_name_length.Goals as goal

pub returns : goal.returns
returns c =
    let c6 = c in
    let c7 = c6 in
    let c8 = c7 in
    let c12 = c8 in
    let c16 = c12 in
    writes_append (writes_then c12.put_escaped_name-a.ensures c6.put_spaces-b.ensures.up (λ j. writes_as (gap_is c12.put_escaped_name-a.result c16.args.at _ _ c16.args.n (escaped_name c16.args.escape c16.args.name.now) c7.gap.ensures c8.width.ensures.value j) c6.put_spaces-b.ensures)) c.put_decimal.ensures
