-- `read_field_entry::further_line` meets its contract. Assumes nothing.
use Rattle.std.proofs.Common.{rules}
use Rattle.scan_bytes.specs.Sequence.{sequence}
use Rattle.read_field_entry.proofs.Turns.{piecing}
use Rattle.read_field_entry.proofs.further_line.Goals as goal

pub indent-requires : goal.indent-requires
indent-requires c = search (piecing, sequence, rules)

pub enum_told-1 : goal.enum_told-1
enum_told-1 c = search (piecing, sequence, rules)

pub enum_told-in-Cut : goal.enum_told-in-Cut
enum_told-in-Cut c = search (piecing, sequence, rules)

pub enum_known-from : goal.enum_known-from
enum_known-from c = search (piecing, sequence, rules)

pub line_at-requires : goal.line_at-requires
line_at-requires c = search (piecing, sequence, rules)

pub enum_told-in-No-line_at : goal.enum_told-in-No-line_at
enum_told-in-No-line_at c = search (piecing, sequence, rules)

pub enum_told-in-Cut-line_at : goal.enum_told-in-Cut-line_at
enum_told-in-Cut-line_at c = search (piecing, sequence, rules)

pub enum_known-end : goal.enum_known-end
enum_known-end c = search (piecing, sequence, rules)

pub returns-in-No : goal.returns-in-No
returns-in-No c = search (piecing, sequence, rules)

pub returns-in-Cut : goal.returns-in-Cut
returns-in-Cut c = search (piecing, sequence, rules)

pub returns-in-No-line_at : goal.returns-in-No-line_at
returns-in-No-line_at c = search (piecing, sequence, rules)

pub returns-in-Cut-line_at : goal.returns-in-Cut-line_at
returns-in-Cut-line_at c = search (piecing, sequence, rules)

pub returns-in-Got-line_at : goal.returns-in-Got-line_at
returns-in-Got-line_at c = search (piecing, sequence, rules)
