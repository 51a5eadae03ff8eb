-- `write_locus_words::white_one` meets its contract.
use Rattle.std.proofs.Common.{refl}
use Rattle.write_locus_words.proofs.Laws.{either_is}
use Rattle.write_locus_words.proofs.white_one.Goals as goal

pub returns : goal.returns
returns c = either_is _ _ _ _ _ c.either.ensures c.is_between.ensures refl
