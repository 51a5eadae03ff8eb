-- `scan_location::number_at` meets its contract. Assumes nothing.
use Rattle.std.proofs.Common.{rules}
use Rattle.scan_location.proofs.Numbers.{numbering}
use Rattle.scan_location.proofs.number_at.Goals as goal

pub digit_at-requires : goal.digit_at-requires
digit_at-requires c = search (numbering, rules)

pub enum_known-value : goal.enum_known-value
enum_known-value c = search (numbering, rules)

pub returns-then-value-eq0 : goal.returns-then-value-eq0
returns-then-value-eq0 c = search (numbering, rules)

pub digits_at-requires : goal.digits_at-requires
digits_at-requires c = search (numbering, rules)

pub enum_told-1 : goal.enum_told-1
enum_told-1 c = search (numbering, rules)

pub returns-else-value-eq0 : goal.returns-else-value-eq0
returns-else-value-eq0 c = search (numbering, rules)

pub returns-in-None : goal.returns-in-None
returns-in-None c = search (numbering, rules)
