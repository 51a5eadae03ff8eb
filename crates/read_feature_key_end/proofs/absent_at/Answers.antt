-- `read_feature_key_end::absent_at` meets its contract. Assumes nothing.
use Rattle.std.proofs.Common.{rules}
use Rattle.scan_bytes.specs.Sequence.{sequence}
use Rattle.read_feature_key_end.proofs.Tails.{tails}
use Rattle.read_feature_key_end.proofs.absent_at.Goals as goal

pub line_end-requires : goal.line_end-requires
line_end-requires c = search (tails, sequence, rules)

pub enum_known-n : goal.enum_known-n
enum_known-n c = search (tails, sequence, rules)

pub enum_told-1 : goal.enum_told-1
enum_told-1 c = search (tails, sequence, rules)

pub enum_told-in-Cut : goal.enum_told-in-Cut
enum_told-in-Cut c = search (tails, sequence, rules)

pub returns-in-Got : goal.returns-in-Got
returns-in-Got c = search (tails, sequence, rules)

pub returns-in-No : goal.returns-in-No
returns-in-No c = search (tails, sequence, rules)

pub returns-in-Cut : goal.returns-in-Cut
returns-in-Cut c = search (tails, sequence, rules)
