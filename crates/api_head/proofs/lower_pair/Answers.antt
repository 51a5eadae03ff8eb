-- `api_head::lower_pair` meets its contract.
use Rattle.std.proofs.Common.{rules}
use Rattle.api_head.proofs.Laws.{ways}
use Rattle.api_head.proofs.lower_pair.Goals as goal

pub returns-then-n-gt65535 : goal.returns-then-n-gt65535
returns-then-n-gt65535 c = search (ways, rules)

pub overflow_cast-result : goal.overflow_cast-result
overflow_cast-result c = search (ways, rules)

pub returns : goal.returns
returns c = search (ways, rules)
