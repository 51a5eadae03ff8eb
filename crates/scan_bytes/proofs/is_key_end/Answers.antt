-- `scan_bytes::is_key_end` meets its contract. Assumes nothing.
use Rattle.std.proofs.Common.{rules}
use Rattle.scan_bytes.proofs.Scan.{tests}
use Rattle.scan_bytes.proofs.is_key_end.Goals as goal

pub returns-then-b-eq61 : goal.returns-then-b-eq61
returns-then-b-eq61 c = search (tests, rules)

pub returns-then-b-eq13 : goal.returns-then-b-eq13
returns-then-b-eq13 c = search (tests, rules)

pub returns-else-b-eq13 : goal.returns-else-b-eq13
returns-else-b-eq13 c = search (tests, rules)
