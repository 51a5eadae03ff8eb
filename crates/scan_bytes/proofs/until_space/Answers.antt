-- `scan_bytes::until_space` meets its contract. Assumes nothing.
use Rattle.std.proofs.Common.{rules}
use Rattle.scan_bytes.proofs.Scan.{stop_until1}
use Rattle.scan_bytes.proofs.until_space.Goals as goal

pub returns : goal.returns
returns c = search (stop_until1, rules)
