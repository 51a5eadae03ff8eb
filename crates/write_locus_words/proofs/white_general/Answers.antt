-- `write_locus_words::white_general` meets its contract.
use Rattle.std.proofs.Common.{eqb, refl}
use Rattle.judge_rooms.specs.Steps.{both_is}
use Rattle.write_locus_words.proofs.white_general.Goals as goal

pub returns : goal.returns
returns c =
    let a = c.args in
    let last = c.white_last.ensures in
    both_is (eqb a.a 226) _ (eqb a.a 226) _ _ c.both-2.ensures refl (both_is (eqb a.b 128) _ (eqb a.b 128) _ _ c.both.ensures refl last)
