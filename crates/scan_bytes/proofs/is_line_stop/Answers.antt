-- `scan_bytes::is_line_stop` meets its contract. Assumes nothing.
use Rattle.std.proofs.Common.{rules}
use Rattle.scan_bytes.proofs.Scan.{tests}
use Rattle.scan_bytes.proofs.is_line_stop.Goals as goal

pub returns-then-b-eq10 : goal.returns-then-b-eq10
returns-then-b-eq10 c = search (tests, rules)

pub returns-else-b-eq10 : goal.returns-else-b-eq10
returns-else-b-eq10 c = search (tests, rules)
