-- `read_record_head::put_text` meets its contract. Assumes nothing.
use Rattle.std.proofs.Common.{rules}
use Rattle.read_record_head.proofs.Laws.{putting}
use Rattle.read_record_head.proofs.put_text.Goals as goal

pub put_span-requires : goal.put_span-requires
put_span-requires c = rw c.in-Some.is at c.requires

pub returns-in-None : goal.returns-in-None
returns-in-None c = search (putting, rules)

pub returns-in-Some : goal.returns-in-Some
returns-in-Some c = search (putting, rules)
