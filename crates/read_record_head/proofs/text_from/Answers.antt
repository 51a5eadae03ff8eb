-- `read_record_head::text_from` meets its contract. Assumes nothing.
use Rattle.std.proofs.Common.{rules}
use Rattle.read_record_head.proofs.Laws.{placing}
use Rattle.read_record_head.proofs.text_from.Goals as goal

pub returns-in-Some : goal.returns-in-Some
returns-in-Some c = search (placing, rules)
