-- `scan_bytes::stop_at` meets its contract. Assumes nothing.
use Rattle.std.proofs.Common.{rules}
use Rattle.scan_bytes.proofs.Scan.{tests}
use Rattle.scan_bytes.proofs.stop_at.Goals as goal

pub returns-then-s-e : goal.returns-then-s-e
returns-then-s-e c = search (tests, rules)

pub returns : goal.returns
returns c = search (tests, rules)
