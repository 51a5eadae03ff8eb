-- `scan_bytes::until_key_end` meets its contract. Assumes nothing.
use Rattle.std.proofs.Common.{rules}
use Rattle.scan_bytes.proofs.Scan.{stop_until1}
use Rattle.scan_bytes.proofs.until_key_end.Goals as goal

pub returns : goal.returns
returns c = search (stop_until1, rules)
