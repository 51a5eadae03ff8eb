-- `scan_location_bytes::is_in_line` meets its contract. Assumes nothing.
use Rattle.std.proofs.Common.{eq-eqb, ne_eqb, rules}
use Rattle.scan_location_bytes.proofs.is_in_line.Goals as goal

pub returns-then-b-eq13 : goal.returns-then-b-eq13
returns-then-b-eq13 c = search (eq-eqb, rules)

pub returns : goal.returns
returns c = search (ne_eqb, rules)
