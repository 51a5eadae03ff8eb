-- `make_kinded`: one law for each way in which the location was read.
use Rattle.std.proofs.Common.{rules}
use Rattle.read_feature_row.proofs.Laws.{placing}
use Rattle.read_feature_row.proofs.make_kinded.Goals as goal

pub make_located-requires : goal.make_located-requires
make_located-requires c = (search rules, search (placing, rules), search (placing, rules))

pub returns-in-Got : goal.returns-in-Got
returns-in-Got c = search (placing, rules)

pub returns-in-No : goal.returns-in-No
returns-in-No c = search (placing, rules)

pub returns-in-Cut : goal.returns-in-Cut
returns-in-Cut c = search (placing, rules)
