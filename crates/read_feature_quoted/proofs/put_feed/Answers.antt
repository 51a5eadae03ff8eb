-- `read_feature_quoted::put_feed` meets its contract. Assumes nothing.
use Rattle.std.proofs.Common.{rules}
use Rattle.scan_bytes.specs.Sequence.{sequence}
use Rattle.read_feature_quoted.proofs.Values.{feds}
use Rattle.read_feature_quoted.proofs.put_feed.Goals as goal

pub returns-then-feed : goal.returns-then-feed
returns-then-feed c = search (feds, sequence, rules)

pub returns : goal.returns
returns c = search (feds, sequence, rules)
