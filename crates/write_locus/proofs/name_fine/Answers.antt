-- `write_locus::name_fine` meets its contract.
use Rattle.std.proofs.Common.{ap, ◌∙◌}
use Rattle.write_locus.specs.Line.{chosen_in, name_with_lem}
use Rattle.write_locus_name.specs.Names.{name_test}
use Rattle.write_locus.proofs.name_fine.Goals as goal

pub text_fine-requires : goal.text_fine-requires
text_fine-requires c =
    let c3 = c in
    (c3.requires.1, chosen_in c3.args.texts.now c3.args.head.name c3.args.head.accession _ c.chosen_name.ensures c3.requires.0.name c3.requires.0.accession)

pub returns : goal.returns
returns c =
    let c4 = c in
    c.text_fine.ensures ∙ ap name_test (name_with_lem c4.args.truncate c4.args.escape c4.args.texts.now c4.args.head _ _ c.printed_length-n.ensures c.chosen_name.ensures)
