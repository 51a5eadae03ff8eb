-- `scan_bytes::blanks0` meets its contract. Assumes nothing.
use Rattle.std.proofs.Common.{rules}
use Rattle.scan_bytes.proofs.Scan.{stop_until}
use Rattle.scan_bytes.proofs.blanks0.Goals as goal

pub returns : goal.returns
returns c = search (stop_until, rules)
