-- `read_record_middle::middle_from` meets its contract. Assumes nothing.
use Rattle.std.proofs.Common.{rules}
use Rattle.read_record_middle.proofs.Laws.{joining}
use Rattle.read_record_middle.proofs.middle_from.Goals as goal

pub returns-in-Cut : goal.returns-in-Cut
returns-in-Cut c = search (joining, rules)

pub returns-in-Deep : goal.returns-in-Deep
returns-in-Deep c = search (joining, rules)

pub returns-in-Got : goal.returns-in-Got
returns-in-Got c = search (joining, rules)
