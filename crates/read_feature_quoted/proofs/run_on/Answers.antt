-- `read_feature_quoted::run_on` meets its contract. Assumes nothing.
use Rattle.std.proofs.Common.{rules}
use Rattle.read_feature_quoted.proofs.Values.{known_ran}
use Rattle.read_feature_quoted.proofs.run_on.Goals as goal

pub returns-then-utf8_ends : goal.returns-then-utf8_ends
returns-then-utf8_ends c = search (known_ran, rules)
