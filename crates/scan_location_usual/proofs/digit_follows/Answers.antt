-- `scan_location_usual::digit_follows` meets its contract. Assumes nothing.
use Rattle.std.proofs.Common.{rules}
use Rattle.scan_location_usual.proofs.Ranges.{following}
use Rattle.scan_location_usual.proofs.digit_follows.Goals as goal

pub returns-in-Byte : goal.returns-in-Byte
returns-in-Byte c = search (following, rules)

pub returns-in-End : goal.returns-in-End
returns-in-End c = search (following, rules)
