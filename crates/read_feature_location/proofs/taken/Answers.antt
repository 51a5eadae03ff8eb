-- `read_feature_location::taken` meets its contract. Assumes nothing.
use Rattle.std.proofs.Common.{rules}
use Rattle.read_feature_location.proofs.Laws.{taken_read}
use Rattle.read_feature_location.proofs.taken.Goals as goal

pub returns-in-Read : goal.returns-in-Read
returns-in-Read c = search (taken_read, rules)
