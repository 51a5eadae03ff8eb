-- `api_head::source_from` meets its contract.
use Rattle.std.proofs.Common.{rules}
use Rattle.api_head.proofs.Laws.{ways}
use Rattle.api_head.proofs.source_from.Goals as goal

pub returns-then-above-eq0 : goal.returns-then-above-eq0
returns-then-above-eq0 c = search (ways, rules)

pub overflow_sub-result : goal.overflow_sub-result
overflow_sub-result c = search (ways, rules)

pub returns : goal.returns
returns c = search (ways, rules)
