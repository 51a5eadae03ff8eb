-- `write_locus_name::printed_name_fine` meets its contract.
use Rattle.std.proofs.Common.{ap, ◌∙◌}
use Rattle.write_locus_name.proofs.Laws.{cut_is}
use Rattle.write_locus_name.specs.Names.{name_test}
use Rattle.write_locus_name.proofs.printed_name_fine.Goals as goal

pub returns : goal.returns
returns c =
    let c3 = c in
    let c5 = c3 in
    c.escaped_name_fine.ensures ∙ ap name_test (cut_is c5.args.name.now c5.args.n _ _ c5.args.truncate c5.args.escape c3.width.ensures.value c.kept-end.ensures)
