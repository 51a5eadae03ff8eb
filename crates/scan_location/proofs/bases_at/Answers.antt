-- `scan_location::bases_at` meets its contract. Assumes nothing.
use Rattle.std.proofs.Common.{rules}
use Rattle.scan_location.proofs.Rows.{bottoms}
use Rattle.scan_location.proofs.bases_at.Goals as goal

pub mark_at-requires : goal.mark_at-requires
mark_at-requires c = search (bottoms, rules)

pub enum_known-p : goal.enum_known-p
enum_known-p c = search (bottoms, rules)

pub number_at-requires : goal.number_at-requires
number_at-requires c = search (bottoms, rules)

pub enum_known-value : goal.enum_known-value
enum_known-value c = search (bottoms, rules)

pub after_less-requires : goal.after_less-requires
after_less-requires c = search (bottoms, rules)

pub enum_told-1 : goal.enum_told-1
enum_told-1 c = search (bottoms, rules)

pub enum_told-in-Other : goal.enum_told-in-Other
enum_told-in-Other c = search (bottoms, rules)

pub number_at-requires-in-Other : goal.number_at-requires-in-Other
number_at-requires-in-Other c = search (bottoms, rules)

pub enum_known-value-in-Of-number_at-2 : goal.enum_known-value-in-Of-number_at-2
enum_known-value-in-Of-number_at-2 c = search (bottoms, rules)

pub after_first-requires : goal.after_first-requires
after_first-requires c = search (bottoms, rules)

pub enum_told-in-Fault-number_at : goal.enum_told-in-Fault-number_at
enum_told-in-Fault-number_at c = search (bottoms, rules)

pub returns-in-Of : goal.returns-in-Of
returns-in-Of c = search (bottoms, rules)

pub returns-in-Fault : goal.returns-in-Fault
returns-in-Fault c = search (bottoms, rules)

pub returns-in-Of-number_at : goal.returns-in-Of-number_at
returns-in-Of-number_at c = search (bottoms, rules)

pub returns-in-Fault-number_at : goal.returns-in-Fault-number_at
returns-in-Fault-number_at c = search (bottoms, rules)
