-- `scan_location::after_less` meets its contract. Assumes nothing.
use Rattle.std.proofs.Common.{rules}
use Rattle.scan_location.proofs.Rows.{firsts}
use Rattle.scan_location.proofs.after_less.Goals as goal

pub word_at-requires : goal.word_at-requires
word_at-requires c = search (firsts, rules)

pub enum_known-p : goal.enum_known-p
enum_known-p c = search (firsts, rules)

pub range_at-requires : goal.range_at-requires
range_at-requires c = search (firsts, rules)

pub enum_told-1 : goal.enum_told-1
enum_told-1 c = search (firsts, rules)

pub returns-in-Past : goal.returns-in-Past
returns-in-Past c = search (firsts, rules)

pub returns-in-Other : goal.returns-in-Other
returns-in-Other c = search (firsts, rules)
