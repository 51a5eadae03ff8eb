-- `write_locus_words::white_three` meets its contract.
use Rattle.write_locus_words.proofs.Laws.{either_is}
use Rattle.write_locus_words.proofs.white_three.Goals as goal

pub returns : goal.returns
returns c =
    let c3 = c in
    let spaces = either_is _ _ _ _ _ c.either.ensures c3.is_three-medium.ensures c3.is_three-ideographic.ensures in
    let beside = either_is _ _ _ _ _ c.either-2.ensures c3.white_general-general.ensures spaces in
    either_is _ _ _ _ _ c.either-3.ensures c3.is_three-ogham.ensures beside
