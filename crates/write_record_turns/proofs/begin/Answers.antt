-- By what CONTIG's location told.
use Rattle.write_record_turns.specs.Judging.{begin_unlike, begin_goes}
use Rattle.write_record_turns.proofs.begin.Goals as goal

pub put_before-at-requires : goal.put_before-at-requires
put_before-at-requires c = rw c.rest_head-rest.ensures c.requires

pub returns : goal.returns
returns c =
    let a = c.args in
    rw c.staged.ensures
    (begin_goes a.told a.texts.now a.references.now a.comments.now a.head a.how _ c.in-Some.is (rw c.rest_head-rest.ensures at c.put_before-at.ensures))

pub returns-in_default : goal.returns-in_default
returns-in_default c =
    let a = c.args in
    rw c.refused.ensures (begin_unlike a.told a.texts.now a.references.now a.comments.now a.head a.how c.in_default.is)
