-- `scan_location_bytes::in_gap` meets its contract. Assumes nothing.
use Rattle.std.proofs.Common.{rules}
use Rattle.scan_location_bytes.proofs.Words.{testing}
use Rattle.scan_location_bytes.proofs.in_gap.Goals as goal

pub is_visible-requires : goal.is_visible-requires
is_visible-requires c = search (testing, rules)

pub returns-then-b-eq40 : goal.returns-then-b-eq40
returns-then-b-eq40 c = search (testing, rules)

pub returns-then-is_visible : goal.returns-then-is_visible
returns-then-is_visible c = search (testing, rules)

pub returns : goal.returns
returns c = search (testing, rules)
