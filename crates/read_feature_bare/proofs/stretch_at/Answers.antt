-- `read_feature_bare::stretch_at` meets its contract. Assumes nothing.
use Rattle.std.proofs.Common.{rules}
use Rattle.scan_bytes.specs.Sequence.{sequence}
use Rattle.read_feature_bare.proofs.Stretches.{stretches}
use Rattle.read_feature_bare.proofs.stretch_at.Goals as goal

pub further_start-requires : goal.further_start-requires
further_start-requires c = search (sequence, stretches, rules)

pub returns-in-No-further_start : goal.returns-in-No-further_start
returns-in-No-further_start c = search (sequence, stretches, rules)

pub returns-in-Got-further_start : goal.returns-in-Got-further_start
returns-in-Got-further_start c = search (sequence, stretches, rules)

pub returns-in-Cut-further_start : goal.returns-in-Cut-further_start
returns-in-Cut-further_start c = search (sequence, stretches, rules)

pub returns-in-No : goal.returns-in-No
returns-in-No c = search (sequence, stretches, rules)

pub returns-in-Cut : goal.returns-in-Cut
returns-in-Cut c = search (sequence, stretches, rules)
