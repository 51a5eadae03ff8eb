-- `read_record_head::source_at` meets its contract. Assumes nothing.
use Rattle.std.proofs.Common.{rules}
use Rattle.read_record_head.proofs.Laws.{placing}
use Rattle.read_record_head.proofs.source_at.Goals as goal

pub overflow_add-place : goal.overflow_add-place
overflow_add-place c = search (placing, rules)

pub returns-in-Is : goal.returns-in-Is
returns-in-Is c = search (placing, rules)
