-- `api_told::writing_of` meets its contract.
use Rattle.std.proofs.Common.{rules}
use Rattle.api_told.proofs.Laws.{value_told}
use Rattle.api_told.proofs.writing_of.Goals as goal

pub returns : goal.returns
returns c = search (value_told, rules)
