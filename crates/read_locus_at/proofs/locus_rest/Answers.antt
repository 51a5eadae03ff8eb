-- `locus_rest` is a line, and its values.
use Rattle.std.proofs.Common.{rules}
use Rattle.read_locus_at.proofs.Laws.{reading}
use Rattle.read_locus_at.proofs.locus_rest.Goals as goal

pub line_at-requires : goal.line_at-requires
line_at-requires c = search (reading, rules)

pub enum_known-end : goal.enum_known-end
enum_known-end c = search (reading, rules)

pub locus_line-requires : goal.locus_line-requires
locus_line-requires c = search (reading, rules)

pub enum_told-1 : goal.enum_told-1
enum_told-1 c = search (reading, rules)

pub enum_told-in-Cut : goal.enum_told-in-Cut
enum_told-in-Cut c = search (reading, rules)

pub returns-in-Got : goal.returns-in-Got
returns-in-Got c = search (reading, rules)

pub returns-in-No : goal.returns-in-No
returns-in-No c = search (reading, rules)

pub returns-in-Cut : goal.returns-in-Cut
returns-in-Cut c = search (reading, rules)
