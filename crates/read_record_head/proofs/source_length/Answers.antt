-- `read_record_head::source_length` meets its contract. Assumes nothing.
use Rattle.std.proofs.Common.{rules}
use Rattle.read_record_head.proofs.Laws.{placing}
use Rattle.read_record_head.proofs.source_length.Goals as goal

pub overflow_add-result : goal.overflow_add-result
overflow_add-result c = search (placing, rules)

pub returns-in-Is : goal.returns-in-Is
returns-in-Is c = search (placing, rules)
