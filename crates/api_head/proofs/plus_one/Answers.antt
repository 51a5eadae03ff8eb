-- `api_head::plus_one` meets its contract.
use Rattle.std.proofs.Common.{rules}
use Rattle.api_head.proofs.Laws.{ways}
use Rattle.api_head.proofs.plus_one.Goals as goal

pub overflow_add-result : goal.overflow_add-result
overflow_add-result c = search (ways, rules)

pub returns-then-n-lt18446744073709551615 : goal.returns-then-n-lt18446744073709551615
returns-then-n-lt18446744073709551615 c = search (ways, rules)

pub returns : goal.returns
returns c = search (ways, rules)
