-- `read_feature_quoted::is_ordinary` meets its contract. Assumes nothing.
use Rattle.std.proofs.Common.{rules}
use Rattle.read_feature_quoted.proofs.Plains.{tests}
use Rattle.read_feature_quoted.proofs.is_ordinary.Goals as goal

pub returns-then-b-gt34 : goal.returns-then-b-gt34
returns-then-b-gt34 c = search (tests, rules)

pub returns : goal.returns
returns c = search (tests, rules)
