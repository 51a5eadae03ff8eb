-- `scan_bytes::is_not_space` meets its contract. Assumes nothing.
use Rattle.std.proofs.Common.{not, ap}
use Rattle.scan_bytes.proofs.is_not_space.Goals as goal

pub returns : goal.returns
returns c = ap not c.is_space.ensures
