-- `scan_bytes::is_between` meets its contract. Assumes nothing.
use Rattle.std.proofs.Common.{rules}
use Rattle.scan_bytes.proofs.Scan.{tests}
use Rattle.scan_bytes.proofs.is_between.Goals as goal

pub returns-then-low-b : goal.returns-then-low-b
returns-then-low-b c = search (tests, rules)

pub returns-else-low-b : goal.returns-else-low-b
returns-else-low-b c = search (tests, rules)
