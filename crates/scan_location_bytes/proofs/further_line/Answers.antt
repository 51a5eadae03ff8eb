-- `scan_location_bytes::further_line` meets its contract. Assumes nothing.
use Rattle.std.proofs.Common.{rules}
use Rattle.scan_bytes.specs.Sequence.{sequence}
use Rattle.scan_location_bytes.proofs.Lines.{ending}
use Rattle.scan_location_bytes.proofs.further_line.Goals as goal

pub line_end-requires : goal.line_end-requires
line_end-requires c = search (sequence, ending, rules)

pub enum_known-n : goal.enum_known-n
enum_known-n c = search (sequence, ending, rules)

pub further_start-requires : goal.further_start-requires
further_start-requires c = search (sequence, ending, rules)

pub enum_told-1 : goal.enum_told-1
enum_told-1 c = search (sequence, ending, rules)

pub enum_told-in-Cut : goal.enum_told-in-Cut
enum_told-in-Cut c = search (sequence, ending, rules)

pub returns-in-Got : goal.returns-in-Got
returns-in-Got c = search (sequence, ending, rules)

pub returns-in-No : goal.returns-in-No
returns-in-No c = search (sequence, ending, rules)

pub returns-in-Cut : goal.returns-in-Cut
returns-in-Cut c = search (sequence, ending, rules)
