-- `read_feature_key_end::tail_at` meets its contract. Assumes nothing.
use Rattle.std.proofs.Common.{rules}
use Rattle.scan_bytes.specs.Sequence.{sequence}
use Rattle.read_feature_key_end.proofs.Tails.{tails}
use Rattle.read_feature_key_end.proofs.tail_at.Goals as goal

pub equals_at-requires : goal.equals_at-requires
equals_at-requires c = search (tails, sequence, rules)

pub enum_known-from : goal.enum_known-from
enum_known-from c = search (tails, sequence, rules)

pub value_at-requires : goal.value_at-requires
value_at-requires c = search (tails, sequence, rules)

pub enum_known-quoted : goal.enum_known-quoted
enum_known-quoted c = search (tails, sequence, rules)

pub enum_told-1 : goal.enum_told-1
enum_told-1 c = search (tails, sequence, rules)

pub absent_at-requires : goal.absent_at-requires
absent_at-requires c = search (tails, sequence, rules)

pub enum_told-in-Cut-value_at : goal.enum_told-in-Cut-value_at
enum_told-in-Cut-value_at c = search (tails, sequence, rules)

pub enum_told-in-No : goal.enum_told-in-No
enum_told-in-No c = search (tails, sequence, rules)

pub absent_at-requires-in-No : goal.absent_at-requires-in-No
absent_at-requires-in-No c = search (tails, sequence, rules)

pub enum_told-in-Cut : goal.enum_told-in-Cut
enum_told-in-Cut c = search (tails, sequence, rules)

pub returns-in-Got-value_at : goal.returns-in-Got-value_at
returns-in-Got-value_at c = search (tails, sequence, rules)

pub returns-in-No-value_at : goal.returns-in-No-value_at
returns-in-No-value_at c = search (tails, sequence, rules)

pub returns-in-Cut-value_at : goal.returns-in-Cut-value_at
returns-in-Cut-value_at c = search (tails, sequence, rules)

pub returns-in-No : goal.returns-in-No
returns-in-No c = search (tails, sequence, rules)

pub returns-in-Cut : goal.returns-in-Cut
returns-in-Cut c = search (tails, sequence, rules)
