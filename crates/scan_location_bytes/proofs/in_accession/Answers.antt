-- `scan_location_bytes::in_accession` meets its contract. Assumes nothing.
use Rattle.std.proofs.Common.{rules}
use Rattle.scan_location_bytes.proofs.Words.{testing}
use Rattle.scan_location_bytes.proofs.in_accession.Goals as goal

pub is_letter-requires : goal.is_letter-requires
is_letter-requires c = search (testing, rules)

pub returns-then-is_letter : goal.returns-then-is_letter
returns-then-is_letter c = search (testing, rules)

pub is_digit-requires : goal.is_digit-requires
is_digit-requires c = search (testing, rules)

pub returns-then-is_digit : goal.returns-then-is_digit
returns-then-is_digit c = search (testing, rules)

pub returns : goal.returns
returns c = search (testing, rules)
