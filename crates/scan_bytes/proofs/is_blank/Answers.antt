-- `scan_bytes::is_blank` meets its contract. Assumes nothing.
use Rattle.std.proofs.Common.{rules}
use Rattle.scan_bytes.proofs.Scan.{tests}
use Rattle.scan_bytes.proofs.is_blank.Goals as goal

pub returns-then-b-eq32 : goal.returns-then-b-eq32
returns-then-b-eq32 c = search (tests, rules)

pub returns-else-b-eq32 : goal.returns-else-b-eq32
returns-else-b-eq32 c = search (tests, rules)
