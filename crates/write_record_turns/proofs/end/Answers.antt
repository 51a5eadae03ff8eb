-- What stands behind the features ends the record.
use Rattle.write_record_turns.specs.PutRows.{ends_done}
use Rattle.write_record_turns.proofs.end.Goals as goal

pub put_after-n-requires : goal.put_after-n-requires
put_after-n-requires c = c.requires

pub returns : goal.returns
returns c =
    let a = c.args in
    rw c.ended.ensures (ends_done a.texts.now a.letters.now a.head a.how a.s a.out.now c.put_after-n.ensures)
