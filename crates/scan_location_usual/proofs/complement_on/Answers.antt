-- `scan_location_usual::complement_on` meets its contract. Assumes nothing.
use Rattle.std.proofs.Common.{rules}
use Rattle.scan_location_usual.proofs.Ranges.{knowing}
use Rattle.scan_location_usual.proofs.complement_on.Goals as goal

pub overflow_sub-s : goal.overflow_sub-s
overflow_sub-s c = search (knowing, rules)

pub returns-else-s-next-ne41 : goal.returns-else-s-next-ne41
returns-else-s-next-ne41 c = search (knowing, rules)
