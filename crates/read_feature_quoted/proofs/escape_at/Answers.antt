-- `read_feature_quoted::escape_at` meets its contract. Assumes nothing.
use Rattle.std.proofs.Common.{rules}
use Rattle.scan_bytes.specs.Sequence.{sequence}
use Rattle.read_feature_quoted.proofs.Steps.{escapes}
use Rattle.read_feature_quoted.proofs.escape_at.Goals as goal

pub returns-in-Got : goal.returns-in-Got
returns-in-Got c = search (escapes, sequence, rules)

pub returns-in-No : goal.returns-in-No
returns-in-No c = search (escapes, sequence, rules)

pub returns-in-Cut : goal.returns-in-Cut
returns-in-Cut c = search (escapes, sequence, rules)
