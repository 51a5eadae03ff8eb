-- `read_record_head::put_may` meets its contract. Assumes nothing.
use Rattle.std.proofs.Common.{rules}
use Rattle.read_record_head.proofs.Laws.{putting}
use Rattle.read_record_head.proofs.put_may.Goals as goal

pub put_one-requires : goal.put_one-requires
put_one-requires c = rw c.in-Is.is at c.requires

pub returns-in-Absent : goal.returns-in-Absent
returns-in-Absent c = search (putting, rules)

pub returns-in-Is : goal.returns-in-Is
returns-in-Is c = search (putting, rules)
