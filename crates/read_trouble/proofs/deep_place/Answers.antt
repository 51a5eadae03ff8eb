-- `read_trouble::deep_place` meets its contract. Assumes nothing.
use Rattle.std.proofs.Common.{rules}
use Rattle.read_trouble.proofs.Ends.{tabling}
use Rattle.read_trouble.proofs.deep_place.Goals as goal

pub features_header-requires : goal.features_header-requires
features_header-requires c = search (tabling, rules)

pub features_at-counts-requires : goal.features_at-counts-requires
features_at-counts-requires c = search (tabling, rules)

pub deep_at-requires : goal.deep_at-requires
deep_at-requires c = search (tabling, rules)

pub count_ends-requires : goal.count_ends-requires
count_ends-requires c = search (tabling, rules)

pub returns-in-Got : goal.returns-in-Got
returns-in-Got c = search (tabling, rules)

pub returns-in-No : goal.returns-in-No
returns-in-No c = search (tabling, rules)

pub returns-in-Cut : goal.returns-in-Cut
returns-in-Cut c = search (tabling, rules)
