-- `write_locus_words::white_two` meets its contract.
use Rattle.std.proofs.Common.{eqb, refl}
use Rattle.judge_rooms.specs.Steps.{both_is}
use Rattle.write_locus_words.proofs.white_two.Goals as goal

pub returns : goal.returns
returns c = both_is (eqb c.args.a 194) _ (eqb c.args.a 194) _ _ c.both.ensures refl c.either.ensures
