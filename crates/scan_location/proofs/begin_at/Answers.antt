-- `scan_location::begin_at` meets its contract. Assumes nothing.
use Rattle.std.proofs.Common.{rules}
use Rattle.scan_location.proofs.Rows.{beginning}
use Rattle.scan_location.proofs.begin_at.Goals as goal

pub word_at-requires : goal.word_at-requires
word_at-requires c = search (beginning, rules)

pub enum_known-p : goal.enum_known-p
enum_known-p c = search (beginning, rules)

pub enum_told-1 : goal.enum_told-1
enum_told-1 c = search (beginning, rules)

pub word_at-requires-in-Other : goal.word_at-requires-in-Other
word_at-requires-in-Other c = search (beginning, rules)

pub enum_known-p-in-Past-word_at-2 : goal.enum_known-p-in-Past-word_at-2
enum_known-p-in-Past-word_at-2 c = search (beginning, rules)

pub enum_told-in-Other-word_at : goal.enum_told-in-Other-word_at
enum_told-in-Other-word_at c = search (beginning, rules)

pub word_at-requires-in-Other-word_at : goal.word_at-requires-in-Other-word_at
word_at-requires-in-Other-word_at c = search (beginning, rules)

pub enum_known-p-in-Past-word_at-3 : goal.enum_known-p-in-Past-word_at-3
enum_known-p-in-Past-word_at-3 c = search (beginning, rules)

pub enum_told-in-Other-word_at-2 : goal.enum_told-in-Other-word_at-2
enum_told-in-Other-word_at-2 c = search (beginning, rules)

pub returns-in-Past : goal.returns-in-Past
returns-in-Past c = search (beginning, rules)

pub returns-in-Past-word_at : goal.returns-in-Past-word_at
returns-in-Past-word_at c = search (beginning, rules)

pub returns-in-Past-word_at-2 : goal.returns-in-Past-word_at-2
returns-in-Past-word_at-2 c = search (beginning, rules)

pub returns-in-Other-word_at-2 : goal.returns-in-Other-word_at-2
returns-in-Other-word_at-2 c = search (beginning, rules)
