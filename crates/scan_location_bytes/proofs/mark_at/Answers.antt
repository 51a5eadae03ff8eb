-- `scan_location_bytes::mark_at` meets its contract. Assumes nothing.
use Rattle.std.proofs.Common.{rules}
use Rattle.scan_location_bytes.proofs.Words.{marks}
use Rattle.scan_location_bytes.proofs.mark_at.Goals as goal

pub byte_at-requires : goal.byte_at-requires
byte_at-requires c = search (marks, rules)

pub enum_known-byte : goal.enum_known-byte
enum_known-byte c = search (marks, rules)

pub overflow_add-result : goal.overflow_add-result
overflow_add-result c = search (marks, rules)

pub returns-then-byte-mark : goal.returns-then-byte-mark
returns-then-byte-mark c = search (marks, rules)

pub enum_told-1 : goal.enum_told-1
enum_told-1 c = search (marks, rules)

pub returns-else-byte-mark : goal.returns-else-byte-mark
returns-else-byte-mark c = search (marks, rules)

pub returns-in-End : goal.returns-in-End
returns-in-End c = search (marks, rules)
