-- `scan_location::range_at` meets its contract. Assumes nothing.
use Rattle.std.proofs.Common.{rules}
use Rattle.scan_location.proofs.Rows.{ranges}
use Rattle.scan_location.proofs.range_at.Goals as goal

pub mark_at-requires : goal.mark_at-requires
mark_at-requires c = search (ranges, rules)

pub enum_known-p : goal.enum_known-p
enum_known-p c = search (ranges, rules)

pub overflow_add-marks : goal.overflow_add-marks
overflow_add-marks c = search (ranges, rules)

pub last_at-requires : goal.last_at-requires
last_at-requires c = search (ranges, rules)

pub enum_told-1 : goal.enum_told-1
enum_told-1 c = search (ranges, rules)

pub last_at-requires-in-Other : goal.last_at-requires-in-Other
last_at-requires-in-Other c = search (ranges, rules)

pub returns-in-Past : goal.returns-in-Past
returns-in-Past c = search (ranges, rules)

pub returns-in-Other : goal.returns-in-Other
returns-in-Other c = search (ranges, rules)
