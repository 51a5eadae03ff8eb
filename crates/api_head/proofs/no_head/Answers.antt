-- `api_head::no_head` meets its contract.
use Rattle.std.proofs.Common.{refl}
use Rattle.spec_contracts.specs.Numbers.{outside}
use Rattle.api_head.proofs.no_head.Goals as goal

pub returns : goal.returns
unfolding outside
returns c = refl
