-- `read_feature_quoted::is_special` meets its contract. Assumes nothing.
use Rattle.std.proofs.Common.{rules}
use Rattle.scan_bytes.specs.Sequence.{sequence}
use Rattle.read_feature_quoted.proofs.Plains.{tests}
use Rattle.read_feature_quoted.proofs.is_special.Goals as goal

pub returns-then-b-eq34 : goal.returns-then-b-eq34
returns-then-b-eq34 c = search (tests, sequence, rules)

pub returns-then-b-eq13 : goal.returns-then-b-eq13
returns-then-b-eq13 c = search (tests, sequence, rules)

pub returns-else-b-eq13 : goal.returns-else-b-eq13
returns-else-b-eq13 c = search (tests, sequence, rules)
