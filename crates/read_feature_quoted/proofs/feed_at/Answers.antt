-- `read_feature_quoted::feed_at` meets its contract. Assumes nothing.
use Rattle.std.proofs.Common.{rules}
use Rattle.scan_bytes.specs.Sequence.{sequence}
use Rattle.read_feature_quoted.proofs.Steps.{feeds}
use Rattle.read_feature_quoted.proofs.feed_at.Goals as goal

pub indent-requires : goal.indent-requires
indent-requires c = search (feeds, sequence, rules)

pub returns-in-Got : goal.returns-in-Got
returns-in-Got c = search (feeds, sequence, rules)

pub returns-in-No : goal.returns-in-No
returns-in-No c = search (feeds, sequence, rules)

pub returns-in-Cut : goal.returns-in-Cut
returns-in-Cut c = search (feeds, sequence, rules)
