-- `scan_location::last_at` meets its contract. Assumes nothing.
use Rattle.std.proofs.Common.{rules}
use Rattle.scan_location.proofs.Rows.{lasts}
use Rattle.scan_location.proofs.last_at.Goals as goal

pub number_at-requires : goal.number_at-requires
number_at-requires c = search (lasts, rules)

pub enum_known-value : goal.enum_known-value
enum_known-value c = search (lasts, rules)

pub row_of-requires : goal.row_of-requires
row_of-requires c = search (lasts, rules)

pub enum_told-1 : goal.enum_told-1
enum_told-1 c = search (lasts, rules)

pub returns-in-Of : goal.returns-in-Of
returns-in-Of c = search (lasts, rules)

pub returns-in-Fault : goal.returns-in-Fault
returns-in-Fault c = search (lasts, rules)
