-- `read_origin::end_at` meets its contract. Assumes nothing.
use Rattle.std.proofs.Common.{rules}
use Rattle.read_origin.proofs.Laws.{ending}
use Rattle.read_origin.proofs.end_at.Goals as goal

pub sequence_at-requires : goal.sequence_at-requires
sequence_at-requires c = search (ending, rules)

pub slashes_after-requires : goal.slashes_after-requires
slashes_after-requires c = search (ending, rules)

pub returns-in-Got : goal.returns-in-Got
returns-in-Got c = search (ending, rules)

pub returns-in-No : goal.returns-in-No
returns-in-No c = search (ending, rules)

pub returns-in-Cut : goal.returns-in-Cut
returns-in-Cut c = search (ending, rules)
