-- `read_feature_location::too_deep` meets its contract. Assumes nothing.
use Rattle.std.proofs.Common.{rules}
use Rattle.read_feature_location.specs.Answers.{deeps}
use Rattle.read_feature_location.proofs.too_deep.Goals as goal

pub returns-in-Read : goal.returns-in-Read
returns-in-Read c = search (deeps, rules)

pub returns-in-None : goal.returns-in-None
returns-in-None c = search (deeps, rules)

pub returns-in-TooDeep : goal.returns-in-TooDeep
returns-in-TooDeep c = search (deeps, rules)
