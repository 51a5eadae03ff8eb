-- `read_record_head::entry_at` meets its contract. Assumes nothing.
use Rattle.std.proofs.Common.{rules}
use Rattle.read_record_head.proofs.Laws.{placing}
use Rattle.read_record_head.proofs.entry_at.Goals as goal

pub returns-in-Is : goal.returns-in-Is
returns-in-Is c = search (placing, rules)
