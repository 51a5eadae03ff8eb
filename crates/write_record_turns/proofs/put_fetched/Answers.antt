-- By whether there is such a row.
use Rattle.write_record_turns.specs.PutRows.{put_outside, put_goes}
use Rattle.write_record_turns.proofs.put_fetched.Goals as goal

pub put_row_lines-at-requires : goal.put_row_lines-at-requires
put_row_lines-at-requires c = (c.requires.0 _ c.in-Some.is, c.requires.1, c.requires.2)

pub returns-in-None : goal.returns-in-None
returns-in-None c =
    let a = c.args in
    rw (c.in-None.is, c.refused.ensures) (put_outside a.texts.now a.qualifiers.now a.how a.s a.out.now)

pub returns-in-Some : goal.returns-in-Some
returns-in-Some c =
    let a = c.args in
    rw (c.in-Some.is, c.staged.ensures) (put_goes a.texts.now a.qualifiers.now a.how a.s a.out.now _ c.put_row_lines-at.ensures)
