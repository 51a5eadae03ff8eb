-- `scan_bytes::spaces1` meets its contract. Assumes nothing.
use Rattle.std.proofs.Common.{rules}
use Rattle.scan_bytes.proofs.Scan.{stop_until1}
use Rattle.scan_bytes.proofs.spaces1.Goals as goal

pub returns : goal.returns
returns c = search (stop_until1, rules)
