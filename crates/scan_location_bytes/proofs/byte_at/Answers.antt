-- `scan_location_bytes::byte_at` meets its contract. Assumes nothing.
use Rattle.std.proofs.Common.{rules}
use Rattle.scan_location_bytes.proofs.Lines.{peeks}
use Rattle.scan_location_bytes.proofs.byte_at.Goals as goal

pub returns-then-b-gt13 : goal.returns-then-b-gt13
returns-then-b-gt13 c = search (peeks, rules)
