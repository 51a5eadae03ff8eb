-- `read_feature_quoted::later_escape` meets its contract. Assumes nothing.
use Rattle.std.proofs.Common.{rules}
use Rattle.scan_bytes.specs.Sequence.{sequence}
use Rattle.read_feature_quoted.proofs.Steps.{laters}
use Rattle.read_feature_quoted.proofs.later_escape.Goals as goal

pub returns-in-Got : goal.returns-in-Got
returns-in-Got c = search (laters, sequence, rules)

pub returns-in-Got-feed_at : goal.returns-in-Got-feed_at
returns-in-Got-feed_at c = search (laters, sequence, rules)

pub returns-in-No-feed_at : goal.returns-in-No-feed_at
returns-in-No-feed_at c = search (laters, sequence, rules)

pub returns-in-Cut-feed_at : goal.returns-in-Cut-feed_at
returns-in-Cut-feed_at c = search (laters, sequence, rules)

pub returns-in-Cut : goal.returns-in-Cut
returns-in-Cut c = search (laters, sequence, rules)
