-- `api_head::number_at` meets its contract.
use Rattle.std.proofs.Common.{rules}
use Rattle.api_head.proofs.Laws.{ways}
use Rattle.api_head.proofs.number_at.Goals as goal

pub offset_bounds-ns-i : goal.offset_bounds-ns-i
offset_bounds-ns-i c = search (ways, rules)

pub bounds-ns-i : goal.bounds-ns-i
bounds-ns-i c = search (ways, rules)

pub returns-then-i-ns : goal.returns-then-i-ns
returns-then-i-ns c = search (ways, rules)

pub returns : goal.returns
returns c = search (ways, rules)
