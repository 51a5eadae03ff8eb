-- `scan_location::gap_at` meets its contract. Assumes nothing.
use Rattle.std.proofs.Common.{rules}
use Rattle.scan_location.proofs.Rows.{gapping}
use Rattle.scan_location.proofs.gap_at.Goals as goal

pub past_run-end-requires : goal.past_run-end-requires
past_run-end-requires c = search (gapping, rules)

pub mark_at-requires : goal.mark_at-requires
mark_at-requires c = search (gapping, rules)

pub enum_known-p : goal.enum_known-p
enum_known-p c = search (gapping, rules)

pub overflow_sub-result : goal.overflow_sub-result
overflow_sub-result c = search (gapping, rules)

pub enum_told-1 : goal.enum_told-1
enum_told-1 c = search (gapping, rules)

pub returns-in-Past : goal.returns-in-Past
returns-in-Past c = search (gapping, rules)

pub returns-in-Other : goal.returns-in-Other
returns-in-Other c = search (gapping, rules)
