-- The cycle of `read_location::location_in`, `word_in` and `members_in`: each meets its contract. Assumes nothing.
use Rattle.std.proofs.Common.{rules}
use Rattle.read_location.proofs.Cycle.{cycle}
use Rattle.read_location.proofs.+location_in_members_in_word_in.Goals as goal

pub location_in-returns-in-Word : goal.location_in-returns-in-Word
location_in-returns-in-Word t c = search (cycle, rules)

pub location_in-returns-in-Other : goal.location_in-returns-in-Other
location_in-returns-in-Other t c = search (cycle, rules)

pub members_in-loop-p-init : goal.members_in-loop-p-init
members_in-loop-p-init t c = search (cycle, rules)

pub members_in-loop-p-preserved : goal.members_in-loop-p-preserved
members_in-loop-p-preserved t c = search (cycle, rules)

pub members_in-returns-in-Other : goal.members_in-returns-in-Other
members_in-returns-in-Other t c = search (cycle, rules)

pub members_in-returns-in-Fault : goal.members_in-returns-in-Fault
members_in-returns-in-Fault t c = search (cycle, rules)

pub members_in-returns-in-Deep : goal.members_in-returns-in-Deep
members_in-returns-in-Deep t c = search (cycle, rules)

pub word_in-returns-then-left-eq0 : goal.word_in-returns-then-left-eq0
word_in-returns-then-left-eq0 t c = search (cycle, rules)

pub word_in-returns : goal.word_in-returns
word_in-returns t c = search (cycle, rules)
