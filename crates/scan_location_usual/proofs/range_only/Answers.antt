-- `scan_location_usual::range_only` meets its contract. Assumes nothing.
use Rattle.std.proofs.Common.{rules}
use Rattle.scan_location_usual.proofs.Ranges.{knowing}
use Rattle.scan_location_usual.proofs.range_only.Goals as goal

pub returns-else-next-s : goal.returns-else-next-s
returns-else-next-s c = search (knowing, rules)
