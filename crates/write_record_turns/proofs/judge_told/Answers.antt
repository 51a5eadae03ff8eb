-- By what the row's location told.
use Rattle.write_record_turns.specs.Judging.{judge_unlike, judge_goes}
use Rattle.write_record_turns.proofs.judge_told.Goals as goal

pub put_row_lines-at-requires : goal.put_row_lines-at-requires
put_row_lines-at-requires c = (c.requires.0, c.requires.1, c.requires.2)

pub returns-in_default : goal.returns-in_default
returns-in_default c =
    let a = c.args in
    rw c.refused.ensures (judge_unlike a.texts.now a.qualifiers.now a.how a.s a.row a.next a.told c.in_default.is)

pub returns : goal.returns
returns c =
    let a = c.args in
    rw c.staged.ensures
    (judge_goes a.texts.now a.qualifiers.now a.how a.s a.row a.next a.told _ _ _ _ _ _ c.in-Some.is c.both-fine.ensures
    c.both-formed.ensures c.row_passes.ensures c.both-kept.ensures c.row_kept.ensures
    c.put_row_lines-at.ensures)
