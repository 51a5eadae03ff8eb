-- `read_feature_bare::bare_at` meets its contract. Assumes nothing.
use Rattle.std.proofs.Common.{rules}
use Rattle.scan_bytes.specs.Sequence.{sequence}
use Rattle.read_feature_bare.proofs.Bares.{firsts}
use Rattle.read_feature_bare.proofs.bare_at.Goals as goal

pub line_at-requires : goal.line_at-requires
line_at-requires c = search (sequence, firsts, rules)

pub enum_known-end : goal.enum_known-end
enum_known-end c = search (sequence, firsts, rules)

pub started-requires : goal.started-requires
started-requires c = search (sequence, firsts, rules)

pub utf8_on-state-requires : goal.utf8_on-state-requires
utf8_on-state-requires c = search (sequence, firsts, rules)

pub overflow_sub-end : goal.overflow_sub-end
overflow_sub-end c = search (sequence, firsts, rules)

pub further_lines-requires : goal.further_lines-requires
further_lines-requires c = search (sequence, firsts, rules)

pub enum_told-1 : goal.enum_told-1
enum_told-1 c = search (sequence, firsts, rules)

pub enum_told-in-Cut : goal.enum_told-in-Cut
enum_told-in-Cut c = search (sequence, firsts, rules)

pub returns-in-Got : goal.returns-in-Got
returns-in-Got c = search (sequence, firsts, rules)

pub returns-in-No : goal.returns-in-No
returns-in-No c = search (sequence, firsts, rules)

pub returns-in-Cut : goal.returns-in-Cut
returns-in-Cut c = search (sequence, firsts, rules)
