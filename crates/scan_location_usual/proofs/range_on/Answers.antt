-- `scan_location_usual::range_on` meets its contract. Assumes nothing.
use Rattle.std.proofs.Common.{rules}
use Rattle.scan_location_usual.proofs.Ranges.{ranging}
use Rattle.scan_location_usual.proofs.range_on.Goals as goal

pub returns : goal.returns
returns c = search (ranging, rules)
