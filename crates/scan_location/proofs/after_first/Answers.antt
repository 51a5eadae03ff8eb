-- `scan_location::after_first` meets its contract. Assumes nothing.
use Rattle.std.proofs.Common.{rules}
use Rattle.scan_location.proofs.Rows.{firsts}
use Rattle.scan_location.proofs.after_first.Goals as goal

pub word_at-requires : goal.word_at-requires
word_at-requires c = search (firsts, rules)

pub enum_known-p : goal.enum_known-p
enum_known-p c = search (firsts, rules)

pub range_at-requires : goal.range_at-requires
range_at-requires c = search (firsts, rules)

pub enum_told-1 : goal.enum_told-1
enum_told-1 c = search (firsts, rules)

pub mark_at-requires : goal.mark_at-requires
mark_at-requires c = search (firsts, rules)

pub enum_known-p-in-Past-mark_at : goal.enum_known-p-in-Past-mark_at
enum_known-p-in-Past-mark_at c = search (firsts, rules)

pub last_at-requires : goal.last_at-requires
last_at-requires c = search (firsts, rules)

pub enum_told-in-Other-mark_at : goal.enum_told-in-Other-mark_at
enum_told-in-Other-mark_at c = search (firsts, rules)

pub row_of-requires : goal.row_of-requires
row_of-requires c = search (firsts, rules)

pub returns-in-Past : goal.returns-in-Past
returns-in-Past c = search (firsts, rules)

pub returns-in-Past-mark_at : goal.returns-in-Past-mark_at
returns-in-Past-mark_at c = search (firsts, rules)

pub returns-in-Other-mark_at : goal.returns-in-Other-mark_at
returns-in-Other-mark_at c = search (firsts, rules)
