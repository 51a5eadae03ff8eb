-- `api_head::head_numbers` meets its contract.
use Rattle.std.proofs.Common.{arith}
use Rattle.api_head.specs.Back.{head_length}
use Rattle.api_head.proofs.Laws.{filled}
use Rattle.api_head.proofs.head_numbers.Goals as goal

pub returns : goal.returns
returns c = filled _ _ _ _ (head_length _) (omega arith) c.put_head.ensures
