-- `past_feed`: the place lies in the line that was reached, or the next line begins at it or before it.
use Rattle.std.proofs.Common.{rules}
use Rattle.scan_spot.proofs.Laws.{turning}
use Rattle.scan_spot.proofs.past_feed.Goals as goal

pub returns-then-place-next : goal.returns-then-place-next
returns-then-place-next c = search (turning, rules)

pub overflow_sub-next : goal.overflow_sub-next
overflow_sub-next c = search (turning, rules)

pub returns-then-s-next-eq10 : goal.returns-then-s-next-eq10
returns-then-s-next-eq10 c = search (turning, rules)

pub returns : goal.returns
returns c = search (turning, rules)
