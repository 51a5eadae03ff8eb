-- `api_head::head_from` meets its contract.
use Rattle.std.proofs.Common.{rules}
use Rattle.api_head.proofs.Laws.{ways}
use Rattle.api_head.proofs.head_from.Goals as goal

pub no_head-requires : goal.no_head-requires
no_head-requires c = search (ways, rules)

pub returns-then-ns-lt33 : goal.returns-then-ns-lt33
returns-then-ns-lt33 c = search (ways, rules)

pub bounds-ns-2 : goal.bounds-ns-2
bounds-ns-2 c = search (ways, rules)

pub no_head-requires-then-ns-gt4294967296 : goal.no_head-requires-then-ns-gt4294967296
no_head-requires-then-ns-gt4294967296 c = search (ways, rules)

pub returns-then-ns-gt4294967296 : goal.returns-then-ns-gt4294967296
returns-then-ns-gt4294967296 c = search (ways, rules)

pub bounds-ns-2-2 : goal.bounds-ns-2-2
bounds-ns-2-2 c = search (ways, rules)

pub length_from-requires : goal.length_from-requires
length_from-requires c = search (ways, rules)

pub head_in-requires : goal.head_in-requires
head_in-requires c = search (ways, rules)

pub returns : goal.returns
returns c = search (ways, rules)
