-- `scan_location::plain_at` meets its contract. Assumes nothing.
use Rattle.std.proofs.Common.{rules}
use Rattle.scan_location.proofs.Rows.{planes}
use Rattle.scan_location.proofs.plain_at.Goals as goal

pub word_at-requires : goal.word_at-requires
word_at-requires c = search (planes, rules)

pub enum_known-p : goal.enum_known-p
enum_known-p c = search (planes, rules)

pub gap_at-requires : goal.gap_at-requires
gap_at-requires c = search (planes, rules)

pub enum_told-1 : goal.enum_told-1
enum_told-1 c = search (planes, rules)

pub leaf_at-requires : goal.leaf_at-requires
leaf_at-requires c = search (planes, rules)

pub returns-in-Past : goal.returns-in-Past
returns-in-Past c = search (planes, rules)

pub returns-in-Other : goal.returns-in-Other
returns-in-Other c = search (planes, rules)

pub leaf_at-requires-2 : goal.leaf_at-requires-2
leaf_at-requires-2 c = search (planes, rules)

pub returns : goal.returns
returns c = search (planes, rules)
