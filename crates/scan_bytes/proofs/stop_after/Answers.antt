-- `scan_bytes::stop_after` meets its contract. Assumes nothing.
use Rattle.std.proofs.Common.{rules}
use Rattle.scan_bytes.proofs.Scan.{tests}
use Rattle.scan_bytes.proofs.stop_after.Goals as goal

pub returns-then-s-e : goal.returns-then-s-e
returns-then-s-e c = search (tests, rules)

pub returns-then-e-at : goal.returns-then-e-at
returns-then-e-at c = search (tests, rules)

pub returns : goal.returns
returns c = search (tests, rules)
