-- `write_locus_words::white_last` meets its contract.
use Rattle.std.proofs.Common.{refl}
use Rattle.write_locus_words.proofs.Laws.{either_is}
use Rattle.write_locus_words.proofs.white_last.Goals as goal

pub returns : goal.returns
returns c =
    either_is _ _ _ _ _ c.either-2.ensures c.is_between.ensures (either_is _ _ _ _ _ c.either.ensures c.is_between-2.ensures refl)
