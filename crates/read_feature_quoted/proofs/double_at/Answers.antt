-- `read_feature_quoted::double_at` meets its contract. Assumes nothing.
use Rattle.std.proofs.Common.{rules}
use Rattle.scan_bytes.specs.Sequence.{sequence}
use Rattle.read_feature_quoted.proofs.Steps.{doubles}
use Rattle.read_feature_quoted.proofs.double_at.Goals as goal

pub quote_at-requires-in-Got : goal.quote_at-requires-in-Got
quote_at-requires-in-Got c = search (doubles, sequence, rules)

pub returns-in-Got : goal.returns-in-Got
returns-in-Got c = search (doubles, sequence, rules)

pub returns-in-No : goal.returns-in-No
returns-in-No c = search (doubles, sequence, rules)

pub returns-in-Cut : goal.returns-in-Cut
returns-in-Cut c = search (doubles, sequence, rules)
