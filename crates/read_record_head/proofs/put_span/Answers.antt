-- `read_record_head::put_span` meets its contract. Assumes nothing.
use Rattle.std.proofs.Common.{rules}
use Rattle.read_record_head.proofs.Laws.{putting}
use Rattle.read_record_head.proofs.put_span.Goals as goal

pub returns : goal.returns
returns c = search (putting, rules)
