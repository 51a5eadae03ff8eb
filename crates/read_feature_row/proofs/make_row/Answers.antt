-- `make_row`: one law for each way in which the kind was read.
use Rattle.std.proofs.Common.{rules}
use Rattle.read_feature_row.proofs.Laws.{naming}
use Rattle.read_feature_row.proofs.make_row.Goals as goal

pub make_kinded-requires : goal.make_kinded-requires
make_kinded-requires c = search (naming, rules)

pub returns-in-Got : goal.returns-in-Got
returns-in-Got c = search (naming, rules)

pub returns-in-No : goal.returns-in-No
returns-in-No c = search (naming, rules)

pub returns-in-Cut : goal.returns-in-Cut
returns-in-Cut c = search (naming, rules)
