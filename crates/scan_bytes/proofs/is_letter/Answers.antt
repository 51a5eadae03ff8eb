-- `scan_bytes::is_letter` meets its contract. Assumes nothing.
use Rattle.std.proofs.Common.{rules}
use Rattle.scan_bytes.proofs.Scan.{either_first, either_second}
use Rattle.scan_bytes.proofs.is_letter.Goals as goal

pub returns-then-is_between : goal.returns-then-is_between
returns-then-is_between c = search (either_first, either_second, rules)

pub returns : goal.returns
returns c = search (either_first, either_second, rules)
