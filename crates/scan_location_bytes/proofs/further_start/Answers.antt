-- `scan_location_bytes::further_start` meets its contract. Assumes nothing.
use Rattle.std.proofs.Common.{rules}
use Rattle.scan_bytes.specs.Sequence.{sequence}
use Rattle.scan_location_bytes.proofs.Lines.{starting}
use Rattle.scan_location_bytes.proofs.further_start.Goals as goal

pub indent-requires : goal.indent-requires
indent-requires c = search (sequence, starting, rules)

pub enum_known-i : goal.enum_known-i
enum_known-i c = search (sequence, starting, rules)

pub returns-then-contig : goal.returns-then-contig
returns-then-contig c = search (sequence, starting, rules)

pub returns-then-s-i : goal.returns-then-s-i
returns-then-s-i c = search (sequence, starting, rules)

pub bounds-s-i : goal.bounds-s-i
bounds-s-i c = search (sequence, starting, rules)

pub returns-then-s-i-eq47 : goal.returns-then-s-i-eq47
returns-then-s-i-eq47 c = search (sequence, starting, rules)

pub enum_told-1 : goal.enum_told-1
enum_told-1 c = search (sequence, starting, rules)

pub enum_told-in-Cut : goal.enum_told-in-Cut
enum_told-in-Cut c = search (sequence, starting, rules)

pub returns-else-s-i-eq47 : goal.returns-else-s-i-eq47
returns-else-s-i-eq47 c = search (sequence, starting, rules)

pub returns-in-No : goal.returns-in-No
returns-in-No c = search (sequence, starting, rules)

pub returns-in-Cut : goal.returns-in-Cut
returns-in-Cut c = search (sequence, starting, rules)
