-- `read_record_head::put_locus` meets its contract. Assumes nothing.
use Rattle.std.proofs.Common.{rules}
use Rattle.read_record_head.proofs.Laws.{putting}
use Rattle.read_record_head.proofs.put_locus.Goals as goal

pub put_three-requires : goal.put_three-requires
put_three-requires c = rw c.in-Known.is at c.requires

pub returns-in-Unknown : goal.returns-in-Unknown
returns-in-Unknown c = search (putting, rules)

pub returns-in-Known : goal.returns-in-Known
returns-in-Known c = rw c.in-Known.is c.put_three.ensures
