-- `record_end` says how a record ends: each way out by what `//`, the empty lines or a later line say.
use Rattle.std.proofs.Common.{rules}
use Rattle.read_slashes.proofs.Laws.{ending}
use Rattle.read_slashes.proofs.record_end.Goals as goal

pub tag-requires : goal.tag-requires
tag-requires c = search (ending, rules)

pub enum_known-next : goal.enum_known-next
enum_known-next c = search (ending, rules)

pub empty_lines-requires : goal.empty_lines-requires
empty_lines-requires c = search (ending, rules)

pub enum_told-1 : goal.enum_told-1
enum_told-1 c = search (ending, rules)

pub slashes_later-requires : goal.slashes_later-requires
slashes_later-requires c = search (ending, rules)

pub returns-then-slashes_later : goal.returns-then-slashes_later
returns-then-slashes_later c = search (ending, rules)

pub enum_told-in-Cut : goal.enum_told-in-Cut
enum_told-in-Cut c = search (ending, rules)

pub returns-in-Got : goal.returns-in-Got
returns-in-Got c = search (ending, rules)

pub returns-else-slashes_later : goal.returns-else-slashes_later
returns-else-slashes_later c = search (ending, rules)

pub returns-in-Cut : goal.returns-in-Cut
returns-in-Cut c = search (ending, rules)
