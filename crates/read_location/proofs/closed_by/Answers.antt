-- `read_location::closed_by` meets its contract. Assumes nothing.
use Rattle.std.proofs.Common.{rules}
use Rattle.read_location.proofs.Cycle.{closing}
use Rattle.read_location.proofs.Spots.{behinds}
use Rattle.read_location.proofs.closed_by.Goals as goal

pub mark_at-requires : goal.mark_at-requires
mark_at-requires c = search (behinds, rules)

pub overflow_sub-row : goal.overflow_sub-row
overflow_sub-row c = search (behinds, rules)

pub note_row-to-requires : goal.note_row-to-requires
note_row-to-requires c = search (behinds, rules)

pub returns-in-Past : goal.returns-in-Past
returns-in-Past c = search (closing, rules)

pub returns-in-Other : goal.returns-in-Other
returns-in-Other c = search (closing, rules)

pub returns-in-Fault : goal.returns-in-Fault
returns-in-Fault c = search (closing, rules)

pub returns-in-Deep : goal.returns-in-Deep
returns-in-Deep c = search (closing, rules)
