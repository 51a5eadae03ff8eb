-- `write_locus_name::put_printed_name` meets its contract.
use Rattle.std.proofs.Common.{List, ℕ, ap}
use Rattle.write_locus_name.proofs.Laws.{cut_is}
use Rattle.base_pen.specs.Pen.{writes_as}
use Rattle.spec_format.specs.Write.{name_and_length}
use Rattle.spec_format.specs.Bytes.{decimal}
use Rattle.write_locus_name.proofs.put_printed_name.Goals as goal

pub returns : goal.returns
returns c =
    let c5 = c in
    let c6 = c5 in
    let c9 = c6 in
    writes_as (ap (λ (w : List ℕ). name_and_length w (decimal c9.args.n)) (cut_is c9.args.name.now c9.args.n _ _ c9.args.truncate c9.args.escape c6.width.ensures.value c5.kept-end.ensures)) c.put_name_length.ensures
