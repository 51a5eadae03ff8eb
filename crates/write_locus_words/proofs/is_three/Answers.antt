-- `write_locus_words::is_three` meets its contract.
use Rattle.std.proofs.Common.{eqb, refl}
use Rattle.judge_rooms.specs.Steps.{both_is}
use Rattle.write_locus_words.proofs.is_three.Goals as goal

pub returns : goal.returns
returns c =
    let a = c.args in
    both_is (eqb a.a a.x) _ (eqb a.a a.x) _ _ c.both-2.ensures refl c.both.ensures
