-- `read_feature_qualifiers::qualifier_at` meets its contract: one law for each way in which the key was read.
use Rattle.std.proofs.Common.{rules}
use Rattle.read_feature_qualifiers.proofs.Laws.{keying}
use Rattle.read_feature_qualifiers.proofs.qualifier_at.Goals as goal

pub qualifier_from-requires : goal.qualifier_from-requires
qualifier_from-requires c = search (keying, rules)

pub returns-in-Got : goal.returns-in-Got
returns-in-Got c = search (keying, rules)

pub returns-in-No : goal.returns-in-No
returns-in-No c = search (keying, rules)

pub returns-in-Cut : goal.returns-in-Cut
returns-in-Cut c = search (keying, rules)
