-- `read_origin::slashes_after` meets its contract. Assumes nothing.
use Rattle.std.proofs.Common.{rules}
use Rattle.read_origin.proofs.Laws.{slashing}
use Rattle.read_origin.proofs.slashes_after.Goals as goal

pub returns-in-At : goal.returns-in-At
returns-in-At c = search (slashing, rules)

pub returns-in-NoSlashes : goal.returns-in-NoSlashes
returns-in-NoSlashes c = search (slashing, rules)

pub returns-in-Unended : goal.returns-in-Unended
returns-in-Unended c = search (slashing, rules)
