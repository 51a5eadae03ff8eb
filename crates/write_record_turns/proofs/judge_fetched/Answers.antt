-- By whether there is such a row.
use Rattle.write_record_turns.specs.Judging.{judge_outside}
use Rattle.write_record_turns.proofs.judge_fetched.Goals as goal

pub returns-in-None : goal.returns-in-None
returns-in-None c =
    rw (c.in-None.is, c.refused.ensures) (let a = c.args in judge_outside a.texts.now a.qualifiers.now a.how a.s a.locations.now)

pub returns-in-Some : goal.returns-in-Some
returns-in-Some c = rw c.in-Some.is c.judge_row.ensures
