-- `scan_bytes::is_not_blank` meets its contract. Assumes nothing.
use Rattle.std.proofs.Common.{not, ap}
use Rattle.scan_bytes.proofs.is_not_blank.Goals as goal

pub returns : goal.returns
returns c = ap not c.is_blank.ensures
