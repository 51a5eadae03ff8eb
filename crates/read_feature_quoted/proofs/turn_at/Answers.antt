-- `read_feature_quoted::turn_at` meets its contract. Assumes nothing.
use Rattle.std.proofs.Common.{rules}
use Rattle.scan_bytes.specs.Sequence.{sequence}
use Rattle.read_feature_quoted.proofs.Pieces.{turns}
use Rattle.read_feature_quoted.proofs.turn_at.Goals as goal

pub returns-in-Quote : goal.returns-in-Quote
returns-in-Quote c = search (turns, sequence, rules)

pub returns-in-Feed : goal.returns-in-Feed
returns-in-Feed c = search (turns, sequence, rules)

pub returns-in-No : goal.returns-in-No
returns-in-No c = search (turns, sequence, rules)

pub returns-in-Cut : goal.returns-in-Cut
returns-in-Cut c = search (turns, sequence, rules)
