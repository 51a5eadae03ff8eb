-- `scan_location_usual::usual_at` meets its contract. Assumes nothing.
use Rattle.std.proofs.Common.{rules}
use Rattle.scan_location_usual.proofs.Ranges.{knowing}
use Rattle.scan_location_usual.proofs.usual_at.Goals as goal

pub complement_on-requires : goal.complement_on-requires
complement_on-requires c = search (knowing, rules)
