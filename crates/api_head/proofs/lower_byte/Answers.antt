-- `api_head::lower_byte` meets its contract.
use Rattle.std.proofs.Common.{rules}
use Rattle.api_head.proofs.Laws.{ways}
use Rattle.api_head.proofs.lower_byte.Goals as goal

pub returns-then-n-gt255 : goal.returns-then-n-gt255
returns-then-n-gt255 c = search (ways, rules)

pub overflow_cast-result : goal.overflow_cast-result
overflow_cast-result c = search (ways, rules)

pub returns : goal.returns
returns c = search (ways, rules)
