-- `read_record_head::put_source` meets its contract. Assumes nothing.
use Rattle.std.proofs.Common.{rules}
use Rattle.read_record_head.proofs.Laws.{putting}
use Rattle.read_record_head.proofs.put_source.Goals as goal

pub put_one-a-requires : goal.put_one-a-requires
put_one-a-requires c = (rw c.in-Is.is at c.requires).0

pub put_may-requires : goal.put_may-requires
put_may-requires c = (rw c.in-Is.is at c.requires).1

pub returns-in-Absent : goal.returns-in-Absent
returns-in-Absent c = search (putting, rules)

pub returns-in-Is : goal.returns-in-Is
returns-in-Is c = search (putting, rules)
